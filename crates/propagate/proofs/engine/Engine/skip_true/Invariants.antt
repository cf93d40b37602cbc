use Rattle.std.proofs.Common.{◌-◌}
use Rattle.propagate.specs.Steps.{InRow}
use Rattle.propagate.proofs.engine.Engine.skip_true.Given as goal

abbrev pub invariant-loop-kept : goal.invariant-loop-kept
invariant-loop-kept l = InRow l.store.slots l.self l.falsified l.kept l.kept

abbrev pub decreases-loop-kept : goal.decreases-loop-kept
decreases-loop-kept l = l.len - l.kept
