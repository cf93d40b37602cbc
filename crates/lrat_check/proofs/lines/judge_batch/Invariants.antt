-- The lines before this place lead on to the machine.
use Rattle.std.proofs.Common.{◌≡◌, ℕ, ◌+◌, List, drop}
use Rattle.lrat_read.specs.Batch.{AreRead}
use Rattle.lrat_check.specs.Pieces.{JudgesUpTo}
use Rattle.lrat_check.proofs.lines.judge_batch.Given as goal

abbrev pub invariant-loop-place : goal.invariant-loop-place
invariant-loop-place l = record {
  judged : (bytes : List ℕ) → AreRead bytes l.batch
      → JudgesUpTo l.fn.machine bytes l.machine (drop l.place l.batch);
  lines : (l.machine).lines ≡ (l.fn.machine).lines + l.place;
}
