use Rattle.std.proofs.Common.{◌≡◌, ◌<◌, All, length}
use Rattle.cdcl_order.proofs.heap.Heap.scale.Given as goal

abbrev pub invariant-loop-entry : goal.invariant-loop-entry
invariant-loop-entry l = record {
  within : All (λ e. e.variable < l.fn.self) l.entry-items;
  long : length l.entry-items ≡ length l.initial.entry-items;
}
