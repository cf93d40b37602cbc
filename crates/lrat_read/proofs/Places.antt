-- What stands in a line from a place on, in the words of the contracts.
use Rattle.std.proofs.Common.{◌≡◌, ℕ, ◌+◌, ◌-◌, ◌^◌, ◌<◌, ◌≤◌, Bool, true, false, not, List, []}
use Rattle.std.proofs.Common.{◌∷◌, ◌++◌, Some, refl, subst, sym, ◌∙◌, ap, arith, length, drop}
use Rattle.std.proofs.Common.{get_or, slice_range, inl, inr}
use Rattle.std.specs.Int.{from_bool}
use Rattle.std.specs.List.{list_all}
use Rattle.std.specs.Prelude.{◌==◌}
use Rattle.std.proofs.lemmas.Bool.{cases_Bool, cases_lt, cond-false, eqb-true, eqb-false}
use Rattle.std.proofs.lemmas.List.{drop_more, drop_all, get_or-drop, length-drop, length-take}
use Rattle.std.proofs.lemmas.List.{get_or-take}
use Rattle.text.specs.Text.{is_blank, begins_with_token, put_byte, tokens_of, is_digit, value_on}
use Rattle.text.proofs.Laws.{digit_is_no_blank}
use Rattle.lrat_read.specs.Numbers.{IsDigitsAt, IsSpaced, IsNumber, IsNumberAt}
use Rattle.lrat_read.specs.declared.numbers.Digits.{Digits}
use Rattle.lrat_read.specs.declared.numbers.NumberAt.TheVariants.{Malformed, Number}
use Rattle.lrat_read.proofs.Scan.{lead, split_at, digits_room, digits_one, first_is_digit}
use Rattle.lrat_read.proofs.Scan.{number_here}
use Rattle.lrat_read.proofs.Scan.{none_here, token_front, NoNumber}

-- the place after a dash, where there is one
abbrev pub after_dash : List ℕ → ℕ → ℕ
after_dash line first = first + from_bool (get_or line first 0 == 45)

first_of_drop : (i : ℕ) (line : List ℕ) → get_or (drop i line) 0 0 ≡ get_or line i 0
first_of_drop i line = get_or-drop i line 0 0 ∙ ap (λ k. get_or line k 0) (omega arith)

lead_at : (line : List ℕ) (first : ℕ) (s : Bool) → (get_or line first 0 == 45) ≡ s
    → first < length line → drop first line ≡ lead s (drop (first + from_bool s) line)
lead_at line first true e h = drop_more line first 0 h
    ∙ ap (λ b. b ∷ drop (first + 1) line) (eqb-true (get_or line first 0) 45 e)
lead_at line first false e h = ap (λ k. drop k line) (omega arith)

pub range_length : (line : List ℕ) (i j : ℕ) → i ≤ j → j ≤ length line
    → length (slice_range line i j) ≡ j - i
range_length line i j h l = omega (arith, length-take (j - i) (drop i line), length-drop i line)

pub first_of_range : (line : List ℕ) (i j : ℕ) → i < j
    → get_or (slice_range line i j) 0 0 ≡ get_or line i 0
first_of_range line i j h =
    let some : 0 < j - i = omega arith in
    get_or-take (j - i) (drop i line) 0 0 some ∙ first_of_drop i line

-- the token at a place begins with no blank
begins_at : (line : List ℕ) (first : ℕ) → first < length line
    → is_blank (get_or line first 0) ≡ false → begins_with_token (drop first line) ≡ true
begins_at line first h e = ap begins_with_token (drop_more line first 0 h) ∙ ap not e

pub number_found : (line : List ℕ) (at first start : ℕ) (d : Digits)
    → tokens_of (drop first line) ≡ tokens_of (drop at line) → at ≤ first → first < length line
    → is_blank (get_or line first 0) ≡ false → start ≡ after_dash line first →
    IsDigitsAt line start d → IsNumber line start d
    → IsNumberAt line at (Number (get_or line first 0 == 45) d.value d.end)
number_found line at first start d same from h blank begins run whole =
    let s : Bool = get_or line first 0 == 45 in
    let u : List ℕ = slice_range line start d.end in
    let split : drop first line ≡ lead s (u ++ drop d.end line) =
    lead_at line first s refl h ∙ ap (λ k. lead s (drop k line)) (sym begins)
    ∙ ap (lead s) (split_at line start d.end run.from) in
    let size = range_length line start d.end run.from run.within in
    let front = first_of_range line start d.end whole.nonempty in
    let small : value_on 0 u < 2 ^ 62 = omega (arith, run.value, whole.small) in
    let h2 = number_here s u (drop d.end line) run.digits (omega (arith, size, whole.nonempty))
    (λ z. omega (arith, size, whole.lead (sym front ∙ z))) small (ap begins_with_token (sym split)
    ∙ begins_at line first h blank) whole.ends in (
      lead s u,
      sym same ∙ ap tokens_of split ∙ h2.0,
      h2.1 ∙ ap (λ n. Some (s, n)) (sym run.value),
      whole.small,
      omega (arith, whole.nonempty, begins),
      run.within,
    )

first_not_dash : (line : List ℕ) (first start : ℕ) → start ≡ after_dash line first
    → (get_or line first 0 == 45) ≡ false → get_or (drop start line) 0 0 ≡ 45 → ⊥
first_not_dash line first start begins e z =
    let same : start ≡ first = begins ∙ ap (λ (b : Bool). first + from_bool b) e ∙ omega arith in
    eqb-false (get_or line first 0) 45 e (ap (λ k. get_or line k 0) (sym same)
    ∙ sym (first_of_drop start line) ∙ z)

-- a number, and a place further on with nothing but blanks between
pub number_past : (line : List ℕ) (at : ℕ) (s : Bool) (n end place : ℕ)
    → IsNumberAt line at (Number s n end) → tokens_of (drop place line) ≡ tokens_of (drop end line)
    → end ≤ place → place ≤ length line → IsNumberAt line at (Number s n place)
number_past line at s n end place h same from within = (
  h.0,
  h.1 ∙ ap (λ (ts : List (List ℕ)). h.0 ∷ ts) (sym same),
  h.2,
  h.3,
  omega (arith, h.4),
  within,
)

-- digits up to a space, of which the first is not 0, or which are one alone
pub spaced : (line : List ℕ) (start end value : ℕ) → start < end → end < length line
    → end < start + 19 → list_all is_digit (slice_range line start end) ≡ true
    → value ≡ value_on 0 (slice_range line start end) →
    (get_or line start 0 ≡ 48 → end ≡ start + 1) → get_or line end 0 ≡ 32
    → IsSpaced line start (record { value = value; end = end })
spaced line start end value some within few digits same first space =
    let room : value < 10 ^ 18 =
    digits_room line start end value (omega arith) (omega arith) few digits same in
    let small : value < 2 ^ 62 = omega arith in
    let before : start ≤ end = omega arith in
    let inside : end ≤ length line = omega arith in
    let short : end ≤ start + 19 = omega arith in
    let ends : begins_with_token (drop end line) ≡ false =
    ap begins_with_token (drop_more line end 0 within) ∙ ap (λ b. not (is_blank b)) space in
    let run : IsDigitsAt line start (record { value = value; end = end }) = record {
      from = before;
      within = inside;
      short = short;
      digits = digits;
      value = same;
      stops = λ _ _. ap is_digit space;
    } in
    let number : IsNumber line start (record { value = value; end = end }) = record {
      nonempty = some;
      lead = first;
      small = small;
      ends = ends;
    } in
    record { run = run; number = number; within = within; space = space }

no_blank_at : (line : List ℕ) (at start : ℕ) (s : Bool) → (get_or line at 0 == 45) ≡ s
    → start ≡ at + from_bool s → is_digit (get_or line start 0) ≡ true
    → is_blank (get_or line at 0) ≡ false
no_blank_at line at start true e begins digit = ap is_blank (eqb-true (get_or line at 0) 45 e)
no_blank_at line at start false e begins digit =
    let same : start ≡ at = begins ∙ omega arith in
    digit_is_no_blank (get_or line at 0) (ap (λ k. is_digit (get_or line k 0)) (sym same) ∙ digit)

pub spaced_found : (line : List ℕ) (at start : ℕ) (d : Digits) → at < length line
    → start ≡ after_dash line at → IsSpaced line start d
    → IsNumberAt line at (Number (get_or line at 0 == 45) d.value (d.end + 1))
spaced_found line at start d inside begins h =
    let size = range_length line start d.end h.run.from h.run.within in
    let digit : is_digit (get_or line start 0) ≡ true =
    ap is_digit (sym (first_of_range line start d.end h.number.nonempty))
    ∙ first_is_digit (slice_range line start d.end) h.run.digits
    (omega (arith, size, h.number.nonempty)) in
    let blank = no_blank_at line at start (get_or line at 0 == 45) refl begins digit in
    let same : tokens_of (drop d.end line) ≡ tokens_of (drop (d.end + 1) line) =
    ap tokens_of (drop_more line d.end 0 h.within ∙ ap (λ b. b ∷ drop (d.end + 1) line) h.space)
    in
    let here =
    number_found line at at start d refl (omega arith) inside blank begins h.run h.number in
    number_past line at (get_or line at 0 == 45) d.value d.end (d.end + 1) here (sym same)
    (omega arith) (omega (arith, h.within))

-- the 0 that ends a line
pub last_zero : (line : List ℕ) (at : ℕ) → at < length line → length line ≤ at + 1
    → get_or line at 0 ≡ 48 → IsNumberAt line at (Number false 0 (at + 1))
last_zero line at h last z =
    let one = digits_one line at h (omega (arith, z)) (omega (arith, z)) in
    let plain : (get_or line at 0 == 45) ≡ false = ap (λ n. n == 45) z in
    let run : IsDigitsAt line at (record { value = 0; end = at + 1 }) = record {
      from = omega arith;
      within = omega arith;
      short = omega arith;
      digits = one.0;
      value = omega (arith, z, one.1);
      stops = λ more _. absurd (omega (arith, more, last));
    } in
    let number : IsNumber line at (record { value = 0; end = at + 1 }) = record {
      nonempty = omega arith;
      lead = λ _. refl;
      small = omega arith;
      ends = ap begins_with_token (drop_all (at + 1) line last);
    } in
    let begins : at ≡ after_dash line at =
    sym (ap (λ (b : Bool). at + from_bool b) plain ∙ omega arith) in
    subst (λ s. IsNumberAt line at (Number s 0 (at + 1))) plain
    (number_found line at at at (record { value = 0; end = at + 1 }) refl (omega arith) h
    (ap is_blank z) begins run number)

no_number : (line : List ℕ) (at first : ℕ) (s : Bool) (u rest : List ℕ)
    → tokens_of (drop first line) ≡ tokens_of (drop at line) → drop first line ≡ lead s (u ++ rest)
    → NoNumber s u rest → IsNumberAt line at Malformed
no_number line at first s u rest same split none =
    (none.0, none.1, sym same ∙ ap tokens_of split ∙ none.2, none.3)

pub number_missing : (line : List ℕ) (at first start : ℕ) (d : Digits)
    → tokens_of (drop first line) ≡ tokens_of (drop at line) → first < length line
    → is_blank (get_or line first 0) ≡ false → start ≡ after_dash line first →
    IsDigitsAt line start d → (IsNumber line start d → ⊥) → IsNumberAt line at Malformed
number_missing line at first start d same h blank begins run refuted =
    let s : Bool = get_or line first 0 == 45 in
    let u : List ℕ = slice_range line start d.end in
    let rest : List ℕ = drop d.end line in
    let joined : drop start line ≡ u ++ rest = split_at line start d.end run.from in
    let split : drop first line ≡ lead s (u ++ rest) =
    lead_at line first s refl h ∙ ap (λ k. lead s (drop k line)) (sym begins)
    ∙ ap (lead s) joined in
    let size = range_length line start d.end run.from run.within in
    let none : NoNumber s u rest = none_here s u rest run.digits
    (λ e z. first_not_dash line first start begins e (ap (λ r. get_or r 0 0) joined ∙ z))
    (λ some few. ap is_digit (first_of_drop d.end line)
    ∙ run.stops (omega (arith, some, length-drop d.end line)) (omega (arith, size, few)))
    (ap begins_with_token (sym split) ∙ begins_at line first h blank)
    (λ nonempty front small ends. refuted (record {
      nonempty = omega (arith, size, nonempty);
      lead = λ z. let k : get_or u 0 0 ≡ 48 =
          first_of_range line start d.end (omega (arith, size, nonempty)) ∙ z in
          omega (arith, size, front k, run.from);
      small = omega (arith, run.value, small);
      ends = ends;
    })) in
    no_number line at first s u rest same split none

-- a token of one byte
lone : (b c : ℕ) (r : List ℕ) (ts : List (List ℕ)) → is_blank b ≡ false
    → tokens_of (b ∷ r) ≡ (c ∷ []) ∷ ts → (b ≡ c) × (begins_with_token r ≡ false)
lone b c [] ts h e = let k : ((b ∷ []) ∷ []) ≡ (c ∷ []) ∷ ts = sym (cond-false (is_blank b) _ _ h)
    ∙ e in (cc, refl)
lone b c (x ∷ r) ts h e =
    elim (cases_Bool (is_blank x)) [
      | inl t ↦
          let no : begins_with_token (x ∷ r) ≡ false = ap not t in
          let k : (b ∷ []) ∷ tokens_of (x ∷ r) ≡ (c ∷ []) ∷ ts =
          sym (cond-false (is_blank b) _ _ h ∙ ap (λ v. put_byte b v (tokens_of (x ∷ r))) no)
          ∙ e in
          (cc, no)
      | inr f ↦
          let yes : begins_with_token (x ∷ r) ≡ true = ap not f in
          let more = token_front [] x r tt f in
          let k : (b ∷ x ∷ more.0) ∷ more.1 ≡ (c ∷ []) ∷ ts =
          sym (cond-false (is_blank b) _ _ h ∙ ap (λ v. put_byte b v (tokens_of (x ∷ r))) yes
          ∙ ap (put_byte b true) more.2) ∙ e in
          absurd (cc)
    ]

pub letter_missing : (line : List ℕ) (at first : ℕ)
    → tokens_of (drop first line) ≡ tokens_of (drop at line)
    → (first < length line → is_blank (get_or line first 0) ≡ false) →
    (first < length line → get_or line first 0 ≡ 100 → begins_with_token (drop (first + 1) line)
    ≡ false → ⊥) → (ts : List (List ℕ)) → tokens_of (drop at line) ≡ (100 ∷ []) ∷ ts → ⊥
letter_missing line at first same solid refuted ts e =
    elim (cases_lt first (length line)) [
      | inl h ↦
          let k =
          lone (get_or line first 0) 100 (drop (first + 1) line) ts (solid h)
          (sym (ap tokens_of (drop_more line first 0 h)) ∙ same ∙ e) in
          refuted h k.0 k.1
      | inr h ↦
          let k : [] ≡ (100 ∷ []) ∷ ts = sym (ap tokens_of (drop_all first line h)) ∙ same ∙ e in
          cc
    ]
