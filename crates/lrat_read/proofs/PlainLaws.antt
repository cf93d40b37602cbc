-- Lines that are written plainly: places before the line feed, and runs of few digits.
use Rattle.std.proofs.Common.{◌≡◌, ℕ, ◌+◌, ◌-◌, ◌^◌, ◌<◌, ◌≤◌, List, arith, length, get_or, ap}
use Rattle.std.proofs.Common.{◌∙◌, sym, subst, slice_range, slice_set, inl, inr, true, false, Bool}
use Rattle.std.proofs.Common.{drop, take, [], ◌∷◌, ◌++◌}
use Rattle.std.specs.Int.{from_bool}
use Rattle.std.specs.List.{list_all}
use Rattle.std.specs.Prelude.{◌==◌}
use Rattle.std.proofs.lemmas.Bool.{cases_lt, ne_eqb}
use Rattle.std.proofs.lemmas.List.{length-take, length-take-le, take-take, drop-take}
use Rattle.std.proofs.lemmas.List.{take_more_set, drop-append-le, get_or-take}
use Rattle.std.proofs.lemmas.Str.Parse.{digits_value_short}
use Rattle.text.specs.Text.{is_digit, value_on}
use Rattle.text.proofs.Laws.{decimal_numerals, digit_bounds}
use Rattle.lrat_read.specs.Numbers.{IsNumberAt}
use Rattle.lrat_read.specs.Plain.{before_feed, IsPlainDigits, IsPastSpace}
use Rattle.lrat_read.specs.declared.numbers.Digits.{Digits}
use Rattle.lrat_read.specs.declared.numbers.NumberAt.TheVariants.{Number}
use Rattle.lrat_read.proofs.Scan.{first_is_digit}
use Rattle.lrat_read.proofs.Places.{spaced, spaced_found, first_of_range, range_length}

-- a byte that is not a line feed is not the last
pub inner_place : (line : List ℕ) (i : ℕ) → i < length line → get_or line (length line - 1) 0 ≡ 10
    → (get_or line i 0 ≡ 10 → ⊥) → i + 1 < length line
inner_place line i h feed ne =
    elim (cases_lt (i + 1) (length line)) [
      | inl k ↦ k
      | inr k ↦
          let same : i ≡ length line - 1 = omega (arith, h, k) in
          absurd (ne (ap (λ j. get_or line j 0) same ∙ feed))
    ]

pub digits_below : (s : List ℕ) (i j v : ℕ) → j ≤ i + 8
    → list_all is_digit (slice_range s i j) ≡ true → v ≡ value_on 0 (slice_range s i j)
    → v < 10 ^ 8
digits_below s i j v few e same =
    let short : length (slice_range s i j) ≤ 8 = omega (arith, length-take (j - i) (drop i s)) in
    let below = digits_value_short decimal_numerals (slice_range s i j) 8 e short in
    omega (arith, same, below)

-- a part of a list, of its front
range_front : {X : Type 0} (s : List X) (i j : ℕ) → i ≤ j → slice_range s i j ≡ drop i (take j s)
range_front s i j h =
    let same : i + (j - i) ≡ j = omega arith in
    sym (drop-take i (j - i) s) ∙ ap (λ k. drop i (take k s)) same

range_of_front : {X : Type 0} (s : List X) (i j n : ℕ) → i ≤ j → j ≤ n
    → slice_range (take n s) i j ≡ slice_range s i j
range_of_front s i j n h l = range_front (take n s) i j h
    ∙ ap (drop i) (take-take j n s l) ∙ sym (range_front s i j h)

-- the part that ends at the place that was written to
pub range_set : {X : Type 0} (s : List X) (i j : ℕ) (x : X) → i ≤ j → j < length s
    → slice_range (slice_set s j x) i (j + 1) ≡ slice_range s i j ++ x ∷ []
range_set s i j x h l =
    let le : j ≤ length s = omega arith in
    let more : i ≤ j + 1 = omega arith in
    let long : i ≤ length (take j s) = omega (arith, length-take-le j s le) in
    range_front (slice_set s j x) i (j + 1) more ∙ ap (drop i) (take_more_set s j x l)
    ∙ drop-append-le i (take j s) (x ∷ []) long
    ∙ ap (λ r. r ++ x ∷ []) (sym (range_front s i j h))

pub before_length : (line : List ℕ) → length (before_feed line) ≡ length line - 1
before_length line = length-take-le (length line - 1) line (omega arith)

pub before_at : (line : List ℕ) (i : ℕ) → i + 1 < length line
    → get_or (before_feed line) i 0 ≡ get_or line i 0
before_at line i h =
    let some : i < length line - 1 = omega arith in get_or-take (length line - 1) line i 0 some

-- the first byte of a number is a digit
pub plain_first : (line : List ℕ) (at : ℕ) (d : Digits) → IsPlainDigits line at d
    → is_digit (get_or line at 0) ≡ true
plain_first line at d h =
    let from : at ≤ d.end = omega (arith, h.nonempty) in
    let within : d.end ≤ length line = omega (arith, h.within) in
    let size = range_length line at d.end from within in
    ap is_digit (sym (first_of_range line at d.end h.nonempty))
    ∙ first_is_digit (slice_range line at d.end) h.digits (omega (arith, size, h.nonempty))

pub plain_undashed : (line : List ℕ) (at : ℕ) (d : Digits) → IsPlainDigits line at d
    → (get_or line at 0 == 45) ≡ false
plain_undashed line at d h =
    let b = digit_bounds (get_or line at 0) (plain_first line at d h) in
    ne_eqb (get_or line at 0) 45 (λ z. absurd (omega (arith, z, b)))

-- a number with a space after it
pub plain_number : (line : List ℕ) (at : ℕ) (s : Bool) (d : Digits) (next : ℕ)
    → s ≡ (get_or line at 0 == 45) → IsPlainDigits line (at + from_bool s) d
    → IsPastSpace line d.end next → IsNumberAt (before_feed line) at (Number s d.value next)
plain_number line at s d next dash h past =
    let start : ℕ = at + from_bool s in
    let bf : List ℕ = before_feed line in
    let inside : d.end + 1 < length line = omega (arith, past.behind, past.within) in
    let long = before_length line in
    let some = h.nonempty in
    let short = h.short in
    let same : slice_range bf start d.end ≡ slice_range line start d.end =
    range_of_front line start d.end (length line - 1) (omega (arith, some)) (omega arith) in
    let front : get_or bf at 0 ≡ get_or line at 0 =
    before_at line at (omega (arith, some, inside)) in
    let lead : get_or bf start 0 ≡ get_or line start 0 =
    before_at line start (omega (arith, some, inside)) in
    let dashed : s ≡ (get_or bf at 0 == 45) = dash ∙ ap (λ b. b == 45) (sym front) in
    let run = spaced bf start d.end d.value some (omega (arith, long, inside))
    (omega (arith, short)) (ap (list_all is_digit) same ∙ h.digits)
    (h.value ∙ ap (value_on 0) (sym same)) (λ z. h.lead (sym lead ∙ z))
    (before_at line d.end inside ∙ past.space) in
    let begins : start ≡ at + from_bool (get_or bf at 0 == 45) =
    ap (λ (b : Bool). at + from_bool b) dashed in
    let found : IsNumberAt bf at (Number s d.value (d.end + 1)) =
    subst (λ b. IsNumberAt bf at (Number b d.value (d.end + 1))) (sym dashed)
    (spaced_found bf at start d (omega (arith, some, long, inside)) begins run) in
    subst (λ n. IsNumberAt bf at (Number s d.value n)) (sym past.behind) found
