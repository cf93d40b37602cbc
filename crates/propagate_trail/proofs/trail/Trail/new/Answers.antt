use Rattle.std.proofs.Common.{◌*◌, ◌∙◌, replicate, ap, arith}
use Rattle.propagate_trail.specs.Vardata.{VarTableState}
use Rattle.propagate_trail.proofs.Tables.{trail_none, resized}
use Rattle.propagate_trail.proofs.trail.Trail.new.Goals as goal

pub invariant_of-result : goal.invariant_of-result
invariant_of-result c =
    rw c.in_ok-literals.ensures.items (trail_none c.args.variables _ _ _ _ _
    (resized _ _ _ _ c.new.result c.new-values.ensures.items c.new-values.ensures.len
    c.in_ok-resize.ensures.items ∙ ap (replicate (2 * c.args.variables)) c.new.ensures)
    (ap (λ (m : VarTableState). m.levels) c.in_ok-vardata.ensures)
    (ap (λ (m : VarTableState). m.positions) c.in_ok-vardata.ensures)
    (ap (λ (m : VarTableState). m.reasons) c.in_ok-vardata.ensures)
    (omega (arith, c.in_ok-literals.ensures.capacity))
    (omega arith))
