-- No clause so far needs it.
use Rattle.std.proofs.Common.{◌≡◌, false, take}
use Rattle.std.specs.List.{list_any}
use Rattle.cnf.specs.Bits.{assignment_of}
use Rattle.reconstruction.specs.Removals.{is_needed, positive}
use Rattle.reconstruction.specs.Flat.{clauses_at}
use Rattle.reconstruction.proofs.removals.some_needed.Given as goal

abbrev pub invariant-loop-piece : goal.invariant-loop-piece
invariant-loop-piece l =
    list_any (is_needed (assignment_of l.bits) (positive l.variable))
    (clauses_at l.literals (take l.piece-index l.pieces)) ≡ false
