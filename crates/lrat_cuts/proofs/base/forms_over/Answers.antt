-- The formula has few variables, and its clauses are heard one after the other.
use Rattle.std.proofs.Common.{ap, arith, map, ◌∙◌}
use Rattle.cnf.specs.Formula.{Cnf}
use Rattle.adder.specs.declared.profiles.Profile.TheVariants.{Two}
use Rattle.adder.specs.Parts.{weight_in}
use Rattle.adder.proofs.Laws.{fresh_few}
use Rattle.lrat_cuts.specs.Machine.{heard_all}
use Rattle.lrat_cuts.proofs.Putting.{starts_heard}
use Rattle.lrat_cuts.proofs.base.forms_over.Goals as goal

pub new-requires-clause-few : goal.new-requires-clause-few
new-requires-clause-few c =
    let same = c.vars.ensures.vars ∙ ap (λ (f : Cnf). f.variables) c.requires in
    omega (
      arith,
      same,
      fresh_few Two c.args.instance.now,
      c.limits.ensures.variables,
      c.limits.ensures.soft_count,
    )

pub returns-in-Ok : goal.returns-in-Ok
returns-in-Ok c =
    starts_heard c.args.instance.now c.args.formula.now c.vars.result _ _
    c.requires c.vars.ensures.vars
    (ap (map weight_in) c.deref.ensures.value ∙ c.in_ok-weights.ensures.weights)
    (c.in-Ok.ensures ∙ ap (λ x. heard_all x c.in_ok-forms.forms) c.clauses.ensures
    ∙ ap (heard_all (c.args.formula.now).clauses) c.in_ok-forms.ensures)
