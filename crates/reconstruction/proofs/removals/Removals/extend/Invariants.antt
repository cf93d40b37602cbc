-- The last variables have their values.
use Rattle.std.proofs.Common.{◌≡◌, ◌-◌, length, drop}
use Rattle.reconstruction.specs.Removals.{extended}
use Rattle.reconstruction.proofs.removals.Removals.extend.Given as goal

abbrev pub invariant-loop-back : goal.invariant-loop-back
invariant-loop-back l = l.bits ≡ extended (drop (length l.self - l.back) l.self) l.fn.bits
