use Rattle.std.proofs.Common.{length, ◌-◌, ◌≡◌, ◌≤◌, drop, slice_range, true}
use Rattle.std.specs.List.{list_all}
use Rattle.text.specs.Text.{is_blank, tokens_of}
use Rattle.lrat_read.proofs.numbers.skip_blanks.Given as goal

abbrev pub invariant-loop-place : goal.invariant-loop-place
invariant-loop-place l = record {
  from : l.at ≤ l.place;
  within : l.place ≤ length l.line;
  same : tokens_of (drop l.place l.line) ≡ tokens_of (drop l.at l.line);
  blank : list_all is_blank (slice_range l.line l.at l.place) ≡ true;
}

abbrev pub decreases-loop-place : goal.decreases-loop-place
decreases-loop-place l = length l.line - l.place
