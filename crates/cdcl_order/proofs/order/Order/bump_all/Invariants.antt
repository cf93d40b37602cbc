use Rattle.std.proofs.Common.{◌≡◌}
use Rattle.cdcl_order.proofs.order.Order.bump_all.Given as goal

abbrev pub invariant-loop-variable : goal.invariant-loop-variable
invariant-loop-variable l = l.self ≡ l.initial.self
