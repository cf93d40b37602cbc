-- The outputs before are frozen.
use Rattle.std.proofs.Common.{◌≡◌, length, take}
use Rattle.improve.specs.Frozen.{AreFrozen}
use Rattle.improve.proofs.frozen.freeze_outputs.Given as goal

abbrev pub invariant-loop-output : goal.invariant-loop-output
invariant-loop-output l = record {
  len : length l.frozen.items ≡ l.vars;
  frozen : AreFrozen l.frozen.items (take l.output-index l.outputs);
}
