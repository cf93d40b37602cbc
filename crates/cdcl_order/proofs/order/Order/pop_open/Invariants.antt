use Rattle.std.proofs.Common.{◌≡◌}
use Rattle.cdcl_order.specs.Orders.{IsOrder}
use Rattle.cdcl_order.proofs.order.Order.pop_open.Given as goal

abbrev pub invariant-loop : goal.invariant-loop
invariant-loop l =
    let o = l.self-inside in
    IsOrder o.heap o.activity.items × (o.heap ≡ l.fn.self)
