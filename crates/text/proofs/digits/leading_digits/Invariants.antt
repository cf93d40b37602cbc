-- The digits before the count are read.
use Rattle.std.proofs.Common.{◌≡◌, ℕ, ◌-◌, ◌<◌, ◌≤◌, true, length, get_or, take}
use Rattle.text.specs.Text.{is_digit, value_on, capped}
use Rattle.text.proofs.digits.leading_digits.Given as goal

abbrev pub invariant-loop-count : goal.invariant-loop-count
invariant-loop-count l =
    record {
      digits : (k : ℕ) → k < l.count → is_digit (get_or l.bytes k 0) ≡ true;
      value : capped l.value ≡ capped (value_on 0 (take l.count l.bytes));
      within : l.count ≤ length l.bytes;
    }

abbrev pub decreases-loop-count : goal.decreases-loop-count
decreases-loop-count l = length l.bytes - l.count
