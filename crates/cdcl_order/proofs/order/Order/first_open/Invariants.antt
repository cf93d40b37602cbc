use Rattle.std.proofs.Common.{◌≡◌, ℕ, ◌<◌, None}
use Rattle.propagate.specs.Trail.{value_in}
use Rattle.cdcl_order.specs.Orders.{positive}
use Rattle.cdcl_order.proofs.order.Order.first_open.Given as goal

abbrev pub invariant-loop-variable : goal.invariant-loop-variable
invariant-loop-variable l = (v : ℕ) → 0 < v → v < l.variable
    → value_in l.engine.trail (positive v) ≡ None → ⊥
