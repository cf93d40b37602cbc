-- Tokens and numbers from a place of a line on.
use Rattle.std.proofs.Common.{◌%◌, ◌≡◌, ℕ, ◌+◌, ◌-◌, ◌*◌, ◌^◌, ◌<◌, ◌≤◌, Bool, true, false, not}
use Rattle.std.proofs.Common.{List, [], ◌∷◌, ◌++◌, Option, Some, None, inl, inr, refl, sym, ◌∙◌, ap}
use Rattle.std.proofs.Common.{arith, length, take, drop, get_or, slice_range}
use Rattle.std.proofs.Math.Bool.{cond}
use Rattle.std.proofs.Math.Dec.{ltb}
use Rattle.std.specs.List.{AllByRecursion, list_all}
use Rattle.std.proofs.lemmas.Bool.{and_from, and_parts, both_ways, ne_eqb, lt-ltb}
use Rattle.std.proofs.lemmas.Bool.{cases_Bool, cond-false}
use Rattle.std.proofs.lemmas.List.{take_more, get_or-drop, drop-drop, take-append-drop, length-drop}
use Rattle.std.proofs.lemmas.List.{length-append, length-take}
use Rattle.std.proofs.lemmas.List.Folds.{list_all-append}
use Rattle.std.proofs.lemmas.Str.Parse.{digits_value_short}
use Rattle.std.proofs.lemmas.Fmt.{length-decimal-le}
use Rattle.text.specs.Text.{is_blank, begins_with_token, put_byte, tokens_of, is_digit, value_on}
use Rattle.text.specs.Text.{number_of}
use Rattle.text.proofs.Laws.{number_of-is, is_number, decimal-number_of, digit_bounds, digit_from}
use Rattle.text.proofs.Laws.{decimal_numerals, digit_is_no_blank, value_on-push}
use Rattle.lrat_read.specs.Form.{signed_of}
use Rattle.lrat_read.proofs.Tokens.{tag, signed_dash, signed_plain}

-- bytes of which none is a blank
abbrev pub Solid : List ℕ → Type 0
Solid t = AllByRecursion (λ b. is_blank b ≡ false) t

digits_solid : (ds : List ℕ) → list_all is_digit ds ≡ true → Solid ds
digits_solid [] e = tt
digits_solid (b ∷ bs) e = let h = and_parts (is_digit b) (list_all is_digit bs) e in
    (digit_is_no_blank b h.0, digits_solid bs h.1)

-- a token, up to a blank or the end
pub token_whole : (b : ℕ) (bs rest : List ℕ) → is_blank b ≡ false → Solid bs
    → begins_with_token rest ≡ false → tokens_of (b ∷ (bs ++ rest)) ≡ (b ∷ bs) ∷ tokens_of rest
token_whole b [] rest h s e = rw (h, e) refl
token_whole b (c ∷ cs) rest h s e =
    let ih = token_whole c cs rest s.0 s.1 e in
    let begins : not (is_blank c) ≡ true = ap not s.0 in
    cond-false (is_blank b) _ _ h ∙ ap (λ v. put_byte b v (tokens_of (c ∷ (cs ++ rest)))) begins
    ∙ ap (put_byte b true) ih

put_front : (x : ℕ) (v : Bool) (ts : List (List ℕ)) → (q : List ℕ) × (us : List (List ℕ))
    × (put_byte x v ts ≡ (x ∷ q) ∷ us)
put_front x false ts = ([], ts, refl)
put_front x true [] = ([], [], refl)
put_front x true (t ∷ ts) = (t, ts, refl)

-- a token that goes on after p
pub token_front : (p : List ℕ) (x : ℕ) (r : List ℕ) → Solid p → is_blank x ≡ false
    → (q : List ℕ) × (us : List (List ℕ)) × (tokens_of (p ++ x ∷ r) ≡ (p ++ x ∷ q) ∷ us)
token_front [] x r s h =
    let f = put_front x (begins_with_token r) (tokens_of r) in
    (f.0, f.1, cond-false (is_blank x) _ _ h ∙ f.2)
token_front (b ∷ []) x r s h =
    let ih = token_front [] x r tt h in
    let begins : not (is_blank x) ≡ true = ap not h in (
      ih.0,
      ih.1,
      cond-false (is_blank b) _ _ s.0 ∙ ap (λ v. put_byte b v (tokens_of (x ∷ r))) begins
          ∙ ap (put_byte b true) ih.2,
    )
token_front (b ∷ c ∷ cs) x r s h =
    let ih = token_front (c ∷ cs) x r s.1 h in
    let begins : not (is_blank c) ≡ true = ap not s.1.0 in (
      ih.0,
      ih.1,
      cond-false (is_blank b) _ _ s.0
          ∙ ap (λ v. put_byte b v (tokens_of (c ∷ (cs ++ x ∷ r)))) begins
          ∙ ap (put_byte b true) ih.2,
    )

-- a list from a place on
pub split_at : (s : List ℕ) (i j : ℕ) → i ≤ j → drop i s ≡ slice_range s i j ++ drop j s
split_at s i j h =
    let same : i + (j - i) ≡ j = omega arith in
    sym (take-append-drop (j - i) (drop i s))
    ∙ ap (λ r. slice_range s i j ++ r) (drop-drop (j - i) i s ∙ ap (λ k. drop k s) same)

range_push : (s : List ℕ) (i j : ℕ) → i ≤ j → j < length s
    → slice_range s i (j + 1) ≡ slice_range s i j ++ get_or s j 0 ∷ []
range_push s i j h l =
    let one : (j + 1) - i ≡ (j - i) + 1 = omega arith in
    let same : i + (j - i) ≡ j = omega arith in
    let within : j - i < length (drop i s) = omega (arith, length-drop i s) in
    ap (λ k. take k (drop i s)) one ∙ take_more (drop i s) (j - i) 0 within
    ∙ ap (λ x. slice_range s i j ++ x ∷ []) (get_or-drop i s (j - i) 0
    ∙ ap (λ k. get_or s k 0) same)

-- a run of bytes that pass a test, and one byte more
pub run_push : (test : ℕ → Bool) (s : List ℕ) (i j : ℕ) → i ≤ j → j < length s
    → list_all test (slice_range s i j) ≡ true → test (get_or s j 0) ≡ true
    → list_all test (slice_range s i (j + 1)) ≡ true
run_push test s i j h l e b =
    ap (list_all test) (range_push s i j h l)
    ∙ list_all-append test (slice_range s i j) (get_or s j 0 ∷ [])
    ∙ rw (e, b) refl

-- so few digits leave room for one more
-- a byte less the byte of the digit 0, where that is at most 9
pub is_digit_less : (b : ℕ) → b < 18446744073709551616
    → (b + 18446744073709551568) % 18446744073709551616 ≤ 9
    → (48 ≤ b) × (b ≤ 57)
    × ((b + 18446744073709551568) % 18446744073709551616 ≡ b - 48)
is_digit_less b h l = (omega arith, omega arith, omega arith)

pub digits_room : (s : List ℕ) (i j v : ℕ) → i ≤ j → j ≤ length s → j < i + 19
    → list_all is_digit (slice_range s i j) ≡ true → v ≡ value_on 0 (slice_range s i j)
    → v < 10 ^ 18
digits_room s i j v h l few e same =
    let short : length (slice_range s i j) ≤ 18 = omega (arith, length-take (j - i) (drop i s)) in
    let below = digits_value_short decimal_numerals (slice_range s i j) 18 e short in
    omega (arith, same, below)

pub digits_step : (s : List ℕ) (i j : ℕ) → i ≤ j → j < length s → 48 ≤ get_or s j 0
    → get_or s j 0 ≤ 57 → list_all is_digit (slice_range s i j) ≡ true →
    (list_all is_digit (slice_range s i (j + 1)) ≡ true)
    × (value_on 0 (slice_range s i (j + 1)) ≡ 10 * value_on 0 (slice_range s i j)
    + (get_or s j 0 - 48))
digits_step s i j h l low high e = (
  run_push is_digit s i j h l e (digit_from (get_or s j 0) low high),
  ap (value_on 0) (range_push s i j h l) ∙ value_on-push 0 (slice_range s i j) (get_or s j 0),
)

range_none : (s : List ℕ) (i : ℕ) → slice_range s i i ≡ []
range_none s i = let none : i - i ≡ 0 = omega arith in ap (λ k. take k (drop i s)) none

-- a run of one digit
pub digits_one : (s : List ℕ) (i : ℕ) → i < length s → 48 ≤ get_or s i 0 → get_or s i 0 ≤ 57 →
    (list_all is_digit (slice_range s i (i + 1)) ≡ true)
    × (value_on 0 (slice_range s i (i + 1)) ≡ get_or s i 0 - 48)
digits_one s i l low high =
    let none = range_none s i in
    let step = digits_step s i i (omega arith) l low high (ap (list_all is_digit) none) in
    let zero_value : value_on 0 (slice_range s i i) ≡ 0 = ap (value_on 0) none in
    (step.0, step.1 ∙ omega (arith, zero_value))

pub first_is_digit : (u : List ℕ) → list_all is_digit u ≡ true → 0 < length u
    → is_digit (get_or u 0 0) ≡ true
first_is_digit [] e h = absurd (omega arith)
first_is_digit (d ∷ ds) e h = (and_parts (is_digit d) (list_all is_digit ds) e).0

-- a token with the number u, with a dash before it or without
abbrev pub lead : Bool → List ℕ → List ℕ
lead s u = cond s (45 ∷ u) u

signed_lead : (s : Bool) (u : List ℕ) → (s ≡ false → get_or u 0 0 ≡ 45 → ⊥)
    → signed_of (lead s u) ≡ tag s (number_of u)
unfolding tag
signed_lead true u h = signed_dash 45 u refl
signed_lead false [] h = refl
signed_lead false (b ∷ bs) h = signed_plain b bs (ne_eqb b 45 (h refl))

tag_some : (s : Bool) (o : Option ℕ) (n : ℕ) → o ≡ Some n → n < 2 ^ 62 → tag s o ≡ Some (s, n)
unfolding tag
tag_some s o n e h = ap (tag s) e ∙ rw (lt-ltb n 4611686018427387904 h) refl

tag_large : (s : Bool) (n : ℕ) → (n < 2 ^ 62 → ⊥) → tag s (Some n) ≡ None
unfolding tag
tag_large s n h =
    elim (cases_Bool (ltb n 4611686018427387904)) [
      | inl t ↦ absurd (h (Rattle.std.proofs.lemmas.Bool.ltb-true _ _ t))
      | inr f ↦ rw f refl
    ]

tag_none : (s : Bool) (o : Option ℕ) → ((n : ℕ) → o ≡ Some n → n < 2 ^ 62 → ⊥) → tag s o ≡ None
unfolding tag
tag_none s None h = refl
tag_none s (Some n) h = tag_large s n (h n refl)

-- a number below 2^62 has at most 19 digits
number_short : (t : List ℕ) (n : ℕ) → number_of t ≡ Some n → n < 2 ^ 62 → length t ≤ 19
number_short t n e h =
    rw (decimal-number_of t n e (omega arith)) (length-decimal-le 19 n (omega arith) (omega arith)
    (omega arith))

lead_append : (s : Bool) (u r : List ℕ) → lead s u ++ r ≡ lead s (u ++ r)
lead_append true u r = refl
lead_append false u r = refl

lead_solid : (s : Bool) (u : List ℕ) → list_all is_digit u ≡ true → Solid (lead s u)
lead_solid true u e = (refl, digits_solid u e)
lead_solid false u e = digits_solid u e

-- a run of digits, after its dash, to the end of its token
lead_token : (s : Bool) (u rest : List ℕ) → list_all is_digit u ≡ true
    → begins_with_token (lead s (u ++ rest)) ≡ true → begins_with_token rest ≡ false
    → tokens_of (lead s (u ++ rest)) ≡ lead s u ∷ tokens_of rest
lead_token true u rest e b h = token_whole 45 u rest refl (digits_solid u e) h
lead_token false [] rest e b h = absurd (both_ways _ h b)
lead_token false (d ∷ ds) rest e b h = let s = digits_solid (d ∷ ds) e in
    token_whole d ds rest s.0 s.1 h

digits_number : (u : List ℕ) → list_all is_digit u ≡ true → 0 < length u
    → (get_or u 0 0 ≡ 48 → length u ≡ 1) → number_of u ≡ Some (value_on 0 u)
digits_number u e n l = number_of-is u (record { digits = e; nonempty = n; lead = l })

first_digit : (u : List ℕ) → list_all is_digit u ≡ true → get_or u 0 0 ≡ 45 → ⊥
first_digit [] e h = omega arith
first_digit (d ∷ ds) e h = let p = and_parts (is_digit d) (list_all is_digit ds) e in
    let q = digit_bounds d p.0 in omega arith

-- a run that is a number
pub number_here : (s : Bool) (u rest : List ℕ) → list_all is_digit u ≡ true → 0 < length u
    → (get_or u 0 0 ≡ 48 → length u ≡ 1) → value_on 0 u < 2 ^ 62
    → begins_with_token (lead s (u ++ rest)) ≡ true → begins_with_token rest ≡ false
    → (tokens_of (lead s (u ++ rest)) ≡ lead s u ∷ tokens_of rest)
    × (signed_of (lead s u) ≡ Some (s, value_on 0 u))
number_here s u rest e n l small b h = (
  lead_token s u rest e b h,
  signed_lead s u (λ _. first_digit u e)
      ∙ tag_some s (number_of u) (value_on 0 u) (digits_number u e n l) small,
)

digits_middle : (u : List ℕ) (x : ℕ) (q : List ℕ) → list_all is_digit (u ++ x ∷ q) ≡ true
    → is_digit x ≡ true
digits_middle [] x q e = (and_parts (is_digit x) (list_all is_digit q) e).0
digits_middle (d ∷ ds) x q e =
    digits_middle ds x q (and_parts (is_digit d) (list_all is_digit (ds ++ x ∷ q)) e).1

first_same : (u : List ℕ) (x : ℕ) (q r : List ℕ) → get_or (u ++ x ∷ q) 0 0 ≡ get_or (u ++ x ∷ r) 0 0
first_same [] x q r = refl
first_same (d ∷ ds) x q r = refl

abbrev pub NoNumber : Bool → List ℕ → List ℕ → Type 0
NoNumber s u rest = (t : List ℕ) × (ts : List (List ℕ)) × (tokens_of (lead s (u ++ rest)) ≡ t ∷ ts)
    × (signed_of t ≡ None)

-- a run that is a token and no number
none_whole : (s : Bool) (u rest : List ℕ) → list_all is_digit u ≡ true
    → (0 < length u → (get_or u 0 0 ≡ 48 → length u ≡ 1) → value_on 0 u < 2 ^ 62 → ⊥)
    → begins_with_token (lead s (u ++ rest)) ≡ true → begins_with_token rest ≡ false
    → NoNumber s u rest
none_whole s u rest e refuted b h =
    let none : tag s (number_of u) ≡ None = tag_none s (number_of u) (λ n v small.
    let r = is_number u n v in
    let same : value_on 0 u ≡ n = r.1 in
    refuted r.0.nonempty r.0.lead (omega (arith, same))) in (
      lead s u,
      tokens_of rest,
      lead_token s u rest e b h,
      signed_lead s u (λ _. first_digit u e)
          ∙ none,
    )

-- a run with more of its token after it
none_more : (s : Bool) (u : List ℕ) (x : ℕ) (r : List ℕ) → list_all is_digit u ≡ true
    → is_blank x ≡ false → (s ≡ false → get_or (u ++ x ∷ r) 0 0 ≡ 45 → ⊥)
    → (length u < 19 → is_digit x ≡ false) → NoNumber s u (x ∷ r)
none_more s u x r e h first stops =
    let f = token_front (lead s u) x r (lead_solid s u e) h in
    let same : get_or (u ++ x ∷ f.0) 0 0 ≡ get_or (u ++ x ∷ r) 0 0 = first_same u x f.0 r in
    let none : tag s (number_of (u ++ x ∷ f.0)) ≡ None =
    tag_none s (number_of (u ++ x ∷ f.0)) (λ n v small.
    let k = is_number (u ++ x ∷ f.0) n v in
    let short = number_short (u ++ x ∷ f.0) n v small in
    let few : length u < 19 = omega (arith, length-append u (x ∷ f.0)) in
    both_ways _ (stops few) (digits_middle u x f.0 k.0.digits)) in (
      lead s (u ++ x ∷ f.0),
      f.1,
      ap tokens_of (sym (lead_append s u (x ∷ r))) ∙ f.2
          ∙ ap (λ t. t ∷ f.1) (lead_append s u (x ∷ f.0)),
      signed_lead s (u ++ x ∷ f.0) (λ z w. first z (sym same ∙ w)) ∙ none,
    )

-- a run that is no number
pub none_here : (s : Bool) (u rest : List ℕ) → list_all is_digit u ≡ true
    → (s ≡ false → get_or (u ++ rest) 0 0 ≡ 45 → ⊥)
    → (0 < length rest → length u < 19 → is_digit (get_or rest 0 0) ≡ false)
    → begins_with_token (lead s (u ++ rest)) ≡ true
    → (0 < length u → (get_or u 0 0 ≡ 48 → length u ≡ 1) → value_on 0 u < 2 ^ 62
    → begins_with_token rest ≡ false → ⊥) → NoNumber s u rest
none_here s u [] e first stops b refuted =
    none_whole s u [] e (λ n l small. refuted n l small refl) b refl
none_here s u (x ∷ r) e first stops b refuted =
    elim (cases_Bool (is_blank x)) [
      | inl t ↦ let h : not (is_blank x) ≡ false = ap not t in
          none_whole s u (x ∷ r) e (λ n l small. refuted n l small h) b h
      | inr f ↦ none_more s u x r e f first (stops (omega arith))
    ]
