-- The literals that are gone stand once.
use Rattle.std.proofs.Common.{◌≡◌, length}
use Rattle.cnf.specs.Clause.{has_repeat}
use Rattle.bound.proofs.repeats.has_repeat.Given as goal

abbrev pub invariant-loop-rest : goal.invariant-loop-rest
invariant-loop-rest l = has_repeat l.initial.rest ≡ has_repeat l.rest

abbrev pub decreases-loop-rest : goal.decreases-loop-rest
decreases-loop-rest l = length l.rest
