-- The laws of the hard clauses, and of formulas of them.
use Rattle.std.proofs.Common.{◌≡◌, ◌++◌, ap, ◌∙◌}
use Rattle.bound.specs.Bound.{kept}
use Rattle.bound.proofs.Clauses.{feasible}
use Rattle.bound.proofs.Few.{hard_few}
use Rattle.bound.proofs.Fits.{hard_is_formula}
use Rattle.bound.proofs.hard.hard_formula.Goals as goal

pub new-requires-2 : goal.new-requires-2
new-requires-2 c =
    let p = c.args.instance.now in
    let items : c.keep_hard.new.clauses ≡ kept p.hard = c.in_ok-keep_hard.ensures.clauses
    ∙ ap (λ x. x ++ kept p.hard) c.new-clauses.ensures in
    rw (items, c.vars-vars.ensures.vars) (hard_is_formula p c.vars-vars.ensures.limits)

pub returns-clause-feasible : goal.returns-clause-feasible
returns-clause-feasible c = feasible c.args.instance.now

pub returns-clause-few : goal.returns-clause-few
returns-clause-few c = hard_few c.args.instance.now c.vars-vars.ensures.limits
