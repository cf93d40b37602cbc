use Rattle.std.proofs.Common.{◌≡◌, take, length}
use Rattle.cdcl_order.specs.Phases.{values_under}
use Rattle.cdcl_order.proofs.phases.set_values.Given as goal

abbrev pub invariant-loop-lit : goal.invariant-loop-lit
invariant-loop-lit l = record {
  under : l.values ≡ values_under l.fn.values (take l.lit-index l.trail);
  long : length l.values ≡ length l.fn.values;
}
