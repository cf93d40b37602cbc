-- The reader stays as it is.
use Rattle.std.proofs.Common.{◌≡◌}
use Rattle.wmax_onlooker.proofs.beginning.Beginning.keep.Given as goal

abbrev pub invariant-loop-byte : goal.invariant-loop-byte
invariant-loop-byte g l = l.self.file ≡ l.initial.self.file
