-- The blocks of a plain line, as far as they are read into their buffers.
use Rattle.std.proofs.Common.{◌≡◌, ℕ, ◌+◌, ◌-◌, ◌*◌, ◌<◌, ◌≤◌, List, arith, length, get_or, ap, ◌∙◌}
use Rattle.std.proofs.Common.{sym, subst, refl, slice_range, slice_set, true, false, Bool, drop}
use Rattle.std.proofs.Common.{take, [], ◌∷◌, ◌++◌, Some}
use Rattle.std.specs.Int.{from_bool}
use Rattle.std.specs.Prelude.{◌==◌, ◌||◌}
use Rattle.std.specs.List.{list_any}
use Rattle.std.proofs.lemmas.List.{append-nil, take-set-le, length-set, drop_all}
use Rattle.std.proofs.lemmas.List.Folds.{list_any-append}
use Rattle.cnf.specs.Literal.{Literal}
use Rattle.text.specs.Text.{tokens_of}
use Rattle.lrat_read.specs.Form.{block_of, signed_of}
use Rattle.lrat_read.specs.Numbers.{IsNumberAt}
use Rattle.lrat_read.specs.Plain.{before_feed, IsPlainDigits, IsPastSpace, ArePlainLits}
use Rattle.lrat_read.specs.Plain.{ArePlainHints, IsKeptBefore}
use Rattle.lrat_read.specs.declared.numbers.Digits.{Digits}
use Rattle.lrat_read.specs.declared.numbers.NumberAt.TheVariants.{Number}
use Rattle.lrat_read.proofs.Tokens.{Signed, Rest, block_zero}
use Rattle.lrat_read.proofs.Prefixes.{ahead, block_next, LitsSoFar, lits_small}
use Rattle.lrat_read.proofs.Places.{last_zero}
use Rattle.lrat_read.proofs.PlainLaws.{plain_number, range_set, before_length, before_at}

-- the 0 that ends a block, and what is behind it
pub zero_ends : (line : List ℕ) (at : ℕ) (s : Bool) (n end : ℕ) → s ≡ false → n ≡ 0
    → IsNumberAt line at (Number s n end)
    → block_of (tokens_of (drop at line)) ≡ Some ([], tokens_of (drop end line))
zero_ends line at s n end plain none h =
    let zero_read : signed_of h.0 ≡ Some (false, 0) =
    h.2 ∙ ap (λ (b : Bool). Some (b, n)) plain ∙ ap (λ (m : ℕ). Some (false, m)) none in
    ap block_of h.1 ∙ block_zero h.0 (tokens_of (drop end line)) zero_read

pub kept_set : {X : Type 0} (old now : List X) (from count : ℕ) (x : X) → from ≤ count
    → IsKeptBefore old now from → IsKeptBefore old (slice_set now count x) from
kept_set old now from count x h k =
    (take-set-le from now count x h ∙ k.0, length-set now count x ∙ k.1)

pub lits_next : (line : List ℕ) (at place : ℕ) (lits : List Literal) (from count : ℕ) (s : Bool)
    (d : Digits) (next : ℕ) (l : Literal) → s ≡ (get_or line place 0 == 45)
    → IsPlainDigits line (place + from_bool s) d → IsPastSpace line d.end next → 0 < d.value
    → from ≤ count → count < length lits → l ≡ record { variable = d.value; negated = s }
    → LitsSoFar (before_feed line) at place false (slice_range lits from count)
    → LitsSoFar (before_feed line) at next false
    (slice_range (slice_set lits count l) from (count + 1))
lits_next line at place lits from count s d next l dash h past some order room same sofar =
    let n = plain_number line place s d next dash h past in
    let small = h.small in
    lits_small (before_feed line) at place next false (slice_range lits from count)
    (slice_range (slice_set lits count l) from (count + 1)) n.0 s d.value sofar n.1 n.2 some
    (omega (arith, small)) (range_set lits from count l order room
    ∙ ap (λ (x : Literal). slice_range lits from count ++ x ∷ []) same)

pub lits_end : (line : List ℕ) (at place : ℕ) (lits : List Literal) (from count : ℕ) (s : Bool)
    (d : Digits) (next : ℕ) → s ≡ (get_or line place 0 == 45)
    → IsPlainDigits line (place + from_bool s) d → IsPastSpace line d.end next → d.value ≡ 0
    → s ≡ false → from ≤ count → count ≤ length lits
    → LitsSoFar (before_feed line) at place false (slice_range lits from count)
    → ArePlainLits line at lits from (record { end = next; count = count })
lits_end line at place lits from count s d next dash h past none plain order room sofar =
    let bf : List ℕ = before_feed line in
    let n = plain_number line place s d next dash h past in
    let long = before_length line in
    let z = zero_ends bf place s d.value next plain none n in
    let xs : Signed = sofar.numbers in
    let rest : List (List ℕ) = tokens_of (drop next bf) in
    record {
      block = (
        xs,
        sofar.block ∙ ap (ahead xs) z ∙ ap (λ (ys : Signed). Some (ys, rest)) (append-nil xs),
        omega (arith, long, past.within),
        sofar.large,
        λ _. sofar.same refl,
      );
      within = past.within;
      order = order;
      room = room;
    }

pub range_none : {X : Type 0} (s : List X) (i : ℕ) → slice_range s i i ≡ []
range_none s i = let none : i - i ≡ 0 = omega arith in ap (λ k. take k (drop i s)) none

pub ahead_none : (m : Rest) → ahead [] m ≡ m
ahead_none Rattle.std.proofs.Common.None = refl
ahead_none (Some (xs, rest)) = refl

pub lits_none : (line : List ℕ) (at : ℕ) (lits : List Literal) (from : ℕ)
    → LitsSoFar (before_feed line) at at false (slice_range lits from from)
lits_none line at lits from = record {
  numbers = [];
  block = sym (ahead_none (block_of (tokens_of (drop at (before_feed line)))));
  large = refl;
  same = λ _. sym (range_none lits from);
}

-- the hints of a block, as far as they are read
abbrev pub AreHintsSoFar : List ℕ → ℕ → ℕ → Signed → Type 0
AreHintsSoFar line at place hints = block_of (tokens_of (drop at line))
    ≡ ahead hints (block_of (tokens_of (drop place line)))

pub hints_next : (line : List ℕ) (at place : ℕ) (hints : Signed) (from count : ℕ) (s : Bool)
    (d : Digits) (next : ℕ) (x : Bool × ℕ) → s ≡ (get_or line place 0 == 45)
    → IsPlainDigits line (place + from_bool s) d → IsPastSpace line d.end next → 0 < d.value
    → from ≤ count → count < length hints → x ≡ (s, d.value)
    → AreHintsSoFar (before_feed line) at place (slice_range hints from count)
    → AreHintsSoFar (before_feed line) at next
    (slice_range (slice_set hints count x) from (count + 1))
hints_next line at place hints from count s d next x dash h past some order room same sofar =
    let bf : List ℕ = before_feed line in
    let n = plain_number line place s d next dash h past in
    let rest : List (List ℕ) = tokens_of (drop next bf) in
    let more = range_set hints from count x order room
    ∙ ap (λ (y : Bool × ℕ). slice_range hints from count ++ y ∷ []) same in
    block_next (block_of (tokens_of (drop at bf))) (slice_range hints from count)
    (tokens_of (drop place bf)) n.0 rest s d.value sofar n.1 n.2 some
    ∙ ap (λ (xs : Signed). ahead xs (block_of rest)) (sym more)

pub undashed_next : (hints : Signed) (from count : ℕ) (x : Bool × ℕ) → from ≤ count
    → count < length hints → list_any (λ h. h.0) (slice_range hints from count) ≡ false
    → x.0 ≡ false
    → list_any (λ h. h.0) (slice_range (slice_set hints count x) from (count + 1)) ≡ false
undashed_next hints from count x order room before plain =
    ap (list_any (λ h. h.0)) (range_set hints from count x order room)
    ∙ list_any-append (λ h. h.0) (slice_range hints from count) (x ∷ [])
    ∙ ap (λ b. b || (x.0 || false)) before ∙ ap (λ b. b || false) plain

-- the 0 that ends a line
hints_done : (line : List ℕ) (at place : ℕ) (hints : Signed) → place + 1 ≡ length line
    → get_or line place 0 ≡ 48 → AreHintsSoFar line at place hints
    → block_of (tokens_of (drop at line)) ≡ Some (hints, [])
hints_done line at place hints last zero sofar =
    let n = last_zero line place (omega arith) (omega arith) zero in
    let z = zero_ends line place false 0 (place + 1) refl refl n in
    let none = ap tokens_of (drop_all (place + 1) line (omega arith)) in
    sofar ∙ ap (ahead hints) (z ∙ ap (λ (us : List (List ℕ)). Some ([], us)) none)
    ∙ ap (λ (ys : Signed). Some (ys, [])) (append-nil hints)

pub hints_end : (line : List ℕ) (at place : ℕ) (is_deletion : Bool) (hints : Signed)
    (from count : ℕ) (s : Bool) (d : Digits) → place < length line
    → IsPlainDigits line (place + from_bool s) d → d.value ≡ 0 → s ≡ false
    → d.end + 1 ≡ length line → from ≤ count → count ≤ length hints
    → AreHintsSoFar (before_feed line) at place (slice_range hints from count)
    → (is_deletion ≡ true → list_any (λ h. h.0) (slice_range hints from count) ≡ false)
    → ArePlainHints line at is_deletion hints from count
hints_end line at place is_deletion hints from count s d inside h none plain last order room sofar
    undashed =
    let bf : List ℕ = before_feed line in
    let long = before_length line in
    let begins : place + from_bool s ≡ place =
    ap (λ (b : Bool). place + from_bool b) plain ∙ omega arith in
    let zero = h.zero none in
    let one = h.lead zero in
    let here : get_or line place 0 ≡ 48 = ap (λ i. get_or line i 0) (sym begins) ∙ zero in
    let front : get_or bf place 0 ≡ 48 =
    before_at line place (omega (arith, begins, one, last)) ∙ here in
    let whole : place + 1 ≡ length bf = omega (arith, begins, one, last, long) in
    let final : length bf - 1 ≡ place = omega (arith, whole) in
    record {
      block = hints_done bf at place (slice_range hints from count) whole front sofar;
      order = order;
      room = room;
      undashed = undashed;
      last = ap (λ i. get_or bf i 0) final ∙ front;
    }
