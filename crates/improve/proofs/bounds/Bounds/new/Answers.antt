-- No bound was given.
use Rattle.std.proofs.Common.{◌∙◌, ap, length}
use Rattle.cdcl.specs.Solving.{given_to}
use Rattle.improve.proofs.OverBounds.{new_over}
use Rattle.improve.proofs.bounds.Bounds.new.Goals as goal

pub returns-clause-over : goal.returns-clause-over
returns-clause-over c =
    rw c.weigh.ensures (
    new_over c.args.instance.now c.args.profile c.in_ok-solver.solver c.in_ok-network.network
    c.new.result _ c.in_ok-solver.ensures c.in_ok-network.ensures.cells
    c.new.ensures.items
    (c.len-fixed.ensures.len ∙ ap length (c.given.ensures ∙ ap given_to c.weigh.ensures)))
