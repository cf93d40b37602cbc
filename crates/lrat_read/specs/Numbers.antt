-- What stands in a line from a place on: a run of digits, a number, or a lone letter d.
use Rattle.std.specs.Prelude.{◌≡◌, ℕ, ◌+◌, ◌<◌, ◌≤◌, true, false, List, [], ◌∷◌, length, drop}
use Rattle.std.specs.Prelude.{slice_index, slice_range, Option, Some, None}
use Rattle.std.specs.List.{list_all}
use Rattle.cnf.specs.declared.limits.TheConstants.{NUMBER_LIMIT}
use Rattle.text.specs.Text.{tokens_of, begins_with_token, is_digit, value_on}
use Rattle.lrat_read.specs.Form.{signed_of, unsigned_of}
use Rattle.lrat_read.specs.declared.numbers.Digits.{Digits}
use Rattle.lrat_read.specs.declared.numbers.NumberAt.{NumberAt}
use Rattle.lrat_read.specs.declared.numbers.NumberAt.TheVariants.{End, Malformed, Number}
use Rattle.lrat_read.specs.declared.numbers.UnsignedAt.{UnsignedAt}

-- the longest run of digits from a place on, of which at most 19 are taken
pub record IsDigitsAt (line : List ℕ) (start : ℕ) (d : Digits) : Type 0 where
  pub from : start ≤ d.end
  pub within : d.end ≤ length line
  pub short : d.end ≤ start + 19
  pub digits : list_all is_digit (slice_range line start d.end) ≡ true
  pub value : d.value ≡ value_on 0 (slice_range line start d.end)
  pub stops : d.end < length line → d.end < start + 19 → is_digit (slice_index line d.end) ≡ false

-- the run is a plainly spelled number below the limit, with nothing after it in its token
pub record IsNumber (line : List ℕ) (start : ℕ) (d : Digits) : Type 0 where
  pub nonempty : start < d.end
  pub lead : slice_index line start ≡ 48 → d.end ≡ start + 1
  pub small : d.value < NUMBER_LIMIT
  pub ends : begins_with_token (drop d.end line) ≡ false

-- the run is a number, and a space follows
pub record IsSpaced (line : List ℕ) (start : ℕ) (d : Digits) : Type 0 where
  pub run : IsDigitsAt line start d
  pub number : IsNumber line start d
  pub within : d.end < length line
  pub space : slice_index line d.end ≡ 32

abbrev pub IsNumberAt : List ℕ → ℕ → NumberAt → Type 0
IsNumberAt line at End = tokens_of (drop at line) ≡ []
IsNumberAt line at Malformed =
    (t : List ℕ) × (ts : List (List ℕ)) × (tokens_of (drop at line) ≡ t ∷ ts) × (signed_of t ≡ None)
IsNumberAt line at (Number s n end) =
    (t : List ℕ) × (tokens_of (drop at line) ≡ t ∷ tokens_of (drop end line))
    × (signed_of t ≡ Some (s, n)) × (n < NUMBER_LIMIT) × (at < end) × (end ≤ length line)

-- the place after the letter d, where that is the next token
abbrev pub IsAfterLetter : List ℕ → ℕ → Option ℕ → Type 0
IsAfterLetter line at None = (ts : List (List ℕ)) → tokens_of (drop at line) ≡ (100 ∷ []) ∷ ts → ⊥
IsAfterLetter line at (Some end) =
    (tokens_of (drop at line) ≡ (100 ∷ []) ∷ tokens_of (drop end line)) × (end ≤ length line)

-- the number without a dash that the first token spells
abbrev pub first_unsigned : List (List ℕ) → Option ℕ
first_unsigned [] = None
first_unsigned (t ∷ ts) = unsigned_of t

abbrev pub IsUnsignedAt : List ℕ → ℕ → Option UnsignedAt → Type 0
IsUnsignedAt line at None = first_unsigned (tokens_of (drop at line)) ≡ None
IsUnsignedAt line at (Some n) =
    (t : List ℕ) × (tokens_of (drop at line) ≡ t ∷ tokens_of (drop n.end line))
    × (unsigned_of t ≡ Some n.value) × (n.value < NUMBER_LIMIT) × (at < n.end)
    × (n.end ≤ length line)
