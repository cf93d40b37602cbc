-- What is left of the piece, and what the lines before it leave.
use Rattle.std.proofs.Common.{◌≡◌, ◌+◌, ◌≤◌, length, false}
use Rattle.lrat_cuts.proofs.PieceLaws.{TakesUpTo}
use Rattle.lrat_cuts.proofs.pieces.CutsChecker.take.Given as goal

abbrev pub invariant-loop-left : goal.invariant-loop-left
invariant-loop-left l = record {
  taken : TakesUpTo (l.fn.self).reading (l.self).reading l.piece l.left;
  room : (((l.self).reading).machine).lines + length ((l.self).reading).rest + length l.left
      ≤ (l.self).fed;
  fed : (l.self).fed ≡ (l.fn.self).fed;
  works : (l.self).failed ≡ false;
}

abbrev pub decreases-loop-left : goal.decreases-loop-left
decreases-loop-left l = length l.left
