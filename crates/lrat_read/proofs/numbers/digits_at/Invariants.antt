use Rattle.std.proofs.Common.{◌-◌, ◌+◌, ◌≡◌, ◌≤◌, length, slice_range, true}
use Rattle.std.specs.List.{list_all}
use Rattle.text.specs.Text.{is_digit, value_on}
use Rattle.lrat_read.proofs.numbers.digits_at.Given as goal

abbrev pub invariant-loop-end : goal.invariant-loop-end
invariant-loop-end l = record {
  from : l.start ≤ l.end;
  within : l.end ≤ l.stop;
  short : l.stop ≤ l.start + 19;
  in_line : l.stop ≤ length l.line;
  digits : list_all is_digit (slice_range l.line l.start l.end) ≡ true;
  value : l.value ≡ value_on 0 (slice_range l.line l.start l.end);
}

abbrev pub decreases-loop-end : goal.decreases-loop-end
decreases-loop-end l = l.stop - l.end
