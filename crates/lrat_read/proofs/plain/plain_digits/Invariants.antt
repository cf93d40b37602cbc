use Rattle.std.proofs.Common.{◌-◌, ◌+◌, ◌≡◌, ◌<◌, ◌≤◌, length, slice_range, get_or, true}
use Rattle.std.specs.List.{list_all}
use Rattle.text.specs.Text.{is_digit, value_on}
use Rattle.lrat_read.proofs.plain.plain_digits.Given as goal

abbrev pub invariant-loop-digit : goal.invariant-loop-digit
invariant-loop-digit l = record {
  from : l.at < l.end;
  within : l.end < length l.line;
  short : l.end ≤ l.at + 8;
  digits : list_all is_digit (slice_range l.line l.at l.end) ≡ true;
  value : l.value ≡ value_on 0 (slice_range l.line l.at l.end);
  zero : l.value ≡ 0 → get_or l.line l.at 0 ≡ 48;
  lead : get_or l.line l.at 0 ≡ 48 → l.end ≡ l.at + 1;
}

abbrev pub decreases-loop-digit : goal.decreases-loop-digit
decreases-loop-digit l = length l.line - l.end
