-- The variables of a comparator are those of the formula.
use Rattle.std.proofs.Common.{◌^◌, ◌∙◌, ap}
use Rattle.adder.specs.Network.{Adders}
use Rattle.improve.proofs.OverBounds.{outputs_within}
use Rattle.improve.proofs.bounds.make_solver.Goals as goal

pub freeze_outputs-requires : goal.freeze_outputs-requires
freeze_outputs-requires c =
    let vars = c.vars.ensures.vars ∙ ap (λ f. f.variables) c.in_ok-formula.ensures.clauses in
    let outputs = c.outputs.ensures ∙ ap (λ (n : Adders). n.outputs) c.requires in
    rw (outputs, vars) (outputs_within c.args.profile c.args.instance.now (2 ^ 62)
    c.limits.ensures)
