-- The lines so far, and how much of the buffers they take.
use Rattle.std.proofs.Common.{◌-◌, ◌≤◌, length, take}
use Rattle.lrat_read.specs.Batch.{AreRead}
use Rattle.lrat_read.specs.Plain.{AreSpansWithin, lines_in}
use Rattle.lrat_read.proofs.batch.read_lines.Given as goal

abbrev pub invariant-loop-next : goal.invariant-loop-next
invariant-loop-next l = record {
  within : l.at ≤ length l.text;
  lits : (l.used).lits ≤ length l.lits;
  hints : (l.used).hints ≤ length l.hints;
  spans : AreSpansWithin (l.used).lits (l.used).hints l.spans.items;
  read : AreRead (take l.at l.text) (lines_in l.lits l.hints l.spans.items);
}

abbrev pub decreases-loop-next : goal.decreases-loop-next
decreases-loop-next l = length l.text - l.at
