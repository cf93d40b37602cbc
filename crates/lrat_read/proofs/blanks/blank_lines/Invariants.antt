-- The lines so far, each of which takes a byte at least.
use Rattle.std.proofs.Common.{◌≤◌, ◌-◌, length, take, replicate}
use Rattle.lrat_read.specs.Batch.{AreRead}
use Rattle.lrat_read.specs.Blanks.{no_tokens}
use Rattle.lrat_read.proofs.blanks.blank_lines.Given as goal

abbrev pub invariant-loop-end : goal.invariant-loop-end
invariant-loop-end l = record {
  within : l.bytes ≤ length l.text;
  few : l.count ≤ l.bytes;
  read : AreRead (take l.bytes l.text) (replicate l.count no_tokens);
}

abbrev pub decreases-loop-end : goal.decreases-loop-end
decreases-loop-end l = length l.text - l.bytes
