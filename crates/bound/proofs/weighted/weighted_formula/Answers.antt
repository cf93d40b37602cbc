-- The parts of the formula.
use Rattle.std.proofs.Common.{sym, subst, arith, ◌∙◌}
use Rattle.cnf.specs.Formula.{IsFormula}
use Rattle.adder.specs.declared.profiles.Profile.TheVariants.{Two}
use Rattle.adder.proofs.Laws.{fresh_few}
use Rattle.bound.proofs.WeightedParts.{weighted_is_formula, weighted_parts}
use Rattle.bound.proofs.weighted.weighted_formula.Goals as goal

pub new-requires : goal.new-requires
new-requires c =
    let p = c.args.instance.now in
    subst IsFormula (sym (weighted_parts p c.in_ok-last.last c.new-clauses.result
    c.keep_given.new.clauses c.new-clauses.ensures c.in_ok-last.ensures.clauses
    c.in_ok-last.ensures.last))
    (weighted_is_formula p c.limits.ensures (omega (arith, fresh_few Two p)))

pub returns : goal.returns
returns c =
    let p = c.args.instance.now in
    c.new.ensures ∙ weighted_parts p c.in_ok-last.last c.new-clauses.result
    c.keep_given.new.clauses c.new-clauses.ensures c.in_ok-last.ensures.clauses
    c.in_ok-last.ensures.last
