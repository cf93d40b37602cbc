-- The formula has few variables.
use Rattle.std.proofs.Common.{ap, arith, ◌∙◌}
use Rattle.cnf.specs.Formula.{Cnf}
use Rattle.adder.specs.declared.profiles.Profile.TheVariants.{Two}
use Rattle.adder.proofs.Laws.{fresh_few}
use Rattle.cuts_log.proofs.log.beginning.standing_of.Goals as goal

pub new-requires-clause-few : goal.new-requires-clause-few
new-requires-clause-few c =
    let same = c.vars.ensures.vars ∙ ap (λ (f : Cnf). f.variables) c.requires.formula in
    omega (
      arith,
      same,
      fresh_few Two c.args.instance.now,
      c.limits.ensures.variables,
      c.limits.ensures.soft_count,
    )
