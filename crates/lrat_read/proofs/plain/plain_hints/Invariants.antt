use Rattle.std.proofs.Common.{◌≡◌, ◌-◌, ◌*◌, ◌<◌, ◌≤◌, length, slice_range, true, false, drop}
use Rattle.std.specs.List.{list_any}
use Rattle.text.specs.Text.{tokens_of}
use Rattle.lrat_read.specs.Form.{block_of}
use Rattle.lrat_read.specs.Plain.{before_feed, IsKeptBefore}
use Rattle.lrat_read.proofs.Prefixes.{ahead}
use Rattle.lrat_read.proofs.plain.plain_hints.Given as goal

abbrev pub invariant-loop-number : goal.invariant-loop-number
invariant-loop-number l = record {
  within : l.place < length l.line;
  order : l.from ≤ l.count;
  few : 2 * (l.count - l.from) ≤ l.place;
  kept : IsKeptBefore l.fn.hints l.hints l.from;
  block : block_of (tokens_of (drop l.at (before_feed l.line)))
      ≡ ahead (slice_range l.hints l.from l.count)
      (block_of (tokens_of (drop l.place (before_feed l.line))));
  undashed : l.is_deletion ≡ true
      → list_any (λ h. h.0) (slice_range l.hints l.from l.count) ≡ false;
}

abbrev pub decreases-loop-number : goal.decreases-loop-number
decreases-loop-number l = length l.line - l.place
