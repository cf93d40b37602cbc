-- What stands in a line that is written plainly: the bytes of a line with its line feed, and the
-- parts of the buffers that its numbers are written to.
use Rattle.std.specs.Prelude.{◌≡◌, ℕ, ◌+◌, ◌-◌, ◌*◌, ◌<◌, ◌≤◌, ◌^◌, Bool, true, false, List, length}
use Rattle.std.specs.Prelude.{take, slice_index, slice_range, map, Some, ◌==◌}
use Rattle.std.specs.Int.{from_bool}
use Rattle.std.specs.List.{list_all, list_any, AllByRecursion}
use Rattle.cnf.specs.Literal.{Literal}
use Rattle.cnf.specs.declared.limits.TheConstants.{NUMBER_LIMIT}
use Rattle.text.specs.Text.{tokens_of, is_digit, value_on}
use Rattle.lrat_read.specs.Blocks.{IsLitsRead, IsLastRead}
use Rattle.lrat_read.specs.Reader.{IsReadAs}
use Rattle.lrat_read.specs.declared.line.ReadLine.{ReadLine}
use Rattle.lrat_read.specs.declared.numbers.Digits.{Digits}
use Rattle.lrat_read.specs.declared.plain.PlainLits.{PlainLits}
use Rattle.lrat_read.specs.declared.plain.PlainNumber.{PlainNumber}
use Rattle.lrat_read.specs.declared.plain.LineSpan.{LineSpan}
use Rattle.lrat_read.specs.declared.plain.Used.{Used}

-- the last byte is a line feed
abbrev pub EndsInFeed : List ℕ → Type 0
EndsInFeed bytes = slice_index bytes (length bytes - 1) ≡ 10

abbrev pub before_feed : List ℕ → List ℕ
before_feed bytes = take (length bytes - 1) bytes

-- a plainly spelled number of at most eight digits, with a byte after it
pub record IsPlainDigits (bytes : List ℕ) (start : ℕ) (d : Digits) : Type 0 where
  pub nonempty : start < d.end
  pub within : d.end < length bytes
  pub short : d.end ≤ start + 8
  pub digits : list_all is_digit (slice_range bytes start d.end) ≡ true
  pub value : d.value ≡ value_on 0 (slice_range bytes start d.end)
  pub lead : slice_index bytes start ≡ 48 → d.end ≡ start + 1
  pub zero : d.value ≡ 0 → slice_index bytes start ≡ 48
  pub small : d.value < 10 ^ 8

-- such a number, with a dash before it or without
pub record IsPlainNumber (bytes : List ℕ) (at : ℕ) (n : PlainNumber) : Type 0 where
  pub dash : n.is_dashed ≡ (slice_index bytes at == 45)
  pub digits : IsPlainDigits bytes (at + from_bool n.is_dashed) n.digits

-- a space, with a byte after it, and the place of this byte
pub record IsPastSpace (bytes : List ℕ) (at next : ℕ) : Type 0 where
  pub space : slice_index bytes at ≡ 32
  pub behind : next ≡ at + 1
  pub within : next < length bytes

-- the block of literals that begins at a place, and where they stand in the buffer
pub record ArePlainLits (bytes : List ℕ) (at : ℕ) (lits : List Literal) (from : ℕ) (e : PlainLits)
    : Type 0 where
  pub block : IsLitsRead (before_feed bytes) at (slice_range lits from e.count)
      (Some (record { end = e.end; is_large = false }))
  pub within : e.end < length bytes
  pub order : from ≤ e.count
  pub room : e.count ≤ length lits

-- the last block of a line, where its hints stand in the buffer, and that its last byte is 0
pub record ArePlainHints (bytes : List ℕ) (at : ℕ) (is_deletion : Bool) (hints : List (Bool × ℕ))
    (from count : ℕ) : Type 0 where
  pub block : IsLastRead (before_feed bytes) at (slice_range hints from count) true
  pub order : from ≤ count
  pub room : count ≤ length hints
  pub undashed : is_deletion ≡ true → list_any (λ h. h.0) (slice_range hints from count) ≡ false
  pub last : slice_index (before_feed bytes) (length (before_feed bytes) - 1) ≡ 48

-- from this place of a buffer on there is room for each number of a line
abbrev pub HasRoomFrom : {X : Type 0} → List ℕ → List X → ℕ → Type 0
HasRoomFrom bytes buffer from =
    (from ≤ length buffer) × (length bytes < 2 * (length buffer - from) + 2)

abbrev pub HasLineRoom : List ℕ → List Literal → List (Bool × ℕ) → Used → Type 0
HasLineRoom bytes lits hints used =
    HasRoomFrom bytes lits used.lits × HasRoomFrom bytes hints used.hints

-- the buffer is as it was before this place, and as long
abbrev pub IsKeptBefore : {X : Type 0} → List X → List X → ℕ → Type 0
IsKeptBefore old new from = (take from new ≡ take from old) × (length new ≡ length old)

abbrev pub AreKeptBefore : List Literal → List (Bool × ℕ) → List Literal → List (Bool × ℕ) → Used
    → Type 0
AreKeptBefore lits hints new_lits new_hints used =
    IsKeptBefore lits new_lits used.lits × IsKeptBefore hints new_hints used.hints

-- the line of a span
abbrev pub line_in : List Literal → List (Bool × ℕ) → LineSpan → ReadLine
line_in lits hints s = record {
  form = s.form;
  line = record {
    id = s.id;
    clause = slice_range lits s.lits_start s.lits_end;
    is_large = false;
    hints = slice_range hints s.hints_start s.hints_end;
  };
}

-- a span lies before these places of the buffers
pub record IsSpanWithin (most_lits most_hints : ℕ) (s : LineSpan) : Type 0 where
  pub lits_order : s.lits_start ≤ s.lits_end
  pub lits : s.lits_end ≤ most_lits
  pub hints_order : s.hints_start ≤ s.hints_end
  pub hints : s.hints_end ≤ most_hints
  pub small : s.id < NUMBER_LIMIT

-- the lines of spans, and that each span lies before these places
abbrev pub lines_in : List Literal → List (Bool × ℕ) → List LineSpan → List ReadLine
lines_in lits hints ss = map (line_in lits hints) ss

abbrev pub AreSpansWithin : ℕ → ℕ → List LineSpan → Type 0
AreSpansWithin most_lits most_hints ss = AllByRecursion (IsSpanWithin most_lits most_hints) ss

-- a line, and where its numbers stand in the buffers from these places on
pub record IsPlainLine (bytes : List ℕ) (lits : List Literal) (hints : List (Bool × ℕ))
    (used : Used) (s : LineSpan) : Type 0 where
  pub read : IsReadAs (tokens_of (before_feed bytes)) s.form (line_in lits hints s).line
  pub last : slice_index (before_feed bytes) (length (before_feed bytes) - 1) ≡ 48
  pub lits_start : used.lits ≤ s.lits_start
  pub hints_start : used.hints ≤ s.hints_start
  pub within : IsSpanWithin (length lits) (length hints) s
