use Rattle.std.proofs.Common.{◌-◌, ◌*◌, ◌<◌, ◌≤◌, length, slice_range, false}
use Rattle.lrat_read.specs.Plain.{before_feed, IsKeptBefore}
use Rattle.lrat_read.proofs.Prefixes.{LitsSoFar}
use Rattle.lrat_read.proofs.plain.plain_lits.Given as goal

abbrev pub invariant-loop-number : goal.invariant-loop-number
invariant-loop-number l = record {
  within : l.place < length l.line;
  order : l.from ≤ l.count;
  few : 2 * (l.count - l.from) ≤ l.place;
  kept : IsKeptBefore l.fn.lits l.lits l.from;
  lits : LitsSoFar (before_feed l.line) l.at l.place false (slice_range l.lits l.from l.count);
}

abbrev pub decreases-loop-number : goal.decreases-loop-number
decreases-loop-number l = length l.line - l.place
