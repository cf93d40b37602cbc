-- Tokens that spell numbers and literals: what the text definitions read is what is written.
use Rattle.std.proofs.Common.{◌≡◌, ℕ, zero, suc, ◌-◌, ◌^◌, ◌<◌, ◌≤◌, Bool, true, false, not, ◌&&◌}
use Rattle.std.proofs.Common.{List, [], ◌∷◌, Option, Some, None, inl, inr, refl, sym, ◌∙◌, ap}
use Rattle.std.proofs.Common.{subst, arith, length, get_or}
use Rattle.std.specs.Prelude.{if◌then◌else◌, ◌==◌, nat_le}
use Rattle.std.specs.List.{list_all}
use Rattle.std.specs.Fmt.{decimal}
use Rattle.std.proofs.lemmas.Bool.{and_parts, and_from, eqb-true, eqb-false, ne_eqb, leb-true}
use Rattle.std.proofs.lemmas.Bool.{le-leb, cases_eq, not-true, not_from_false, cases_Bool}
use Rattle.std.proofs.lemmas.Bool.{cond-true}
use Rattle.std.proofs.lemmas.Option.{none-some, same_Some, cond_some}
use Rattle.std.proofs.lemmas.Str.Parse.{IsNumeralModel, numerals_by_fold}
use Rattle.std.proofs.lemmas.Fmt.{digits_decimal, digits_value-decimal, decimal-digits_value}
use Rattle.std.proofs.lemmas.Fmt.{decimal_digit, first_decimal, decimal_nonempty}
use Rattle.cnf.specs.Literal.{Literal}
use Rattle.text.specs.Text.{is_blank, is_digit, value_on, number_of, literal_text, literal_of}

pub digit_bounds : (b : ℕ) → is_digit b ≡ true → (48 ≤ b) × (b ≤ 57)
digit_bounds b e = let h = and_parts (nat_le 48 b) (nat_le b 57) e in
    (leb-true 48 b h.0, leb-true b 57 h.1)

pub digit_from : (b : ℕ) → 48 ≤ b → b ≤ 57 → is_digit b ≡ true
digit_from b l h = and_from (nat_le 48 b) (nat_le b 57) (le-leb 48 b l) (le-leb b 57 h)

pub digit_is_no_blank : (b : ℕ) → is_digit b ≡ true → is_blank b ≡ false
digit_is_no_blank b e =
    let h = digit_bounds b e in
    let space : (b == 32) ≡ false = ne_eqb b 32 (omega (arith, h.0)) in
    let tab : (b == 9) ≡ false = ne_eqb b 9 (omega (arith, h.0)) in
    rw (space, tab) refl

pub decimal_numerals : IsNumeralModel (λ ds. list_all is_digit ds ≡ true) (value_on 0)
decimal_numerals = numerals_by_fold _ (record {
  empty = refl;
  parts = λ c cs e. let h = and_parts (is_digit c) (list_all is_digit cs) e in
      (digit_bounds c h.0, h.1);
  more = λ c cs h e. and_from (is_digit c) (list_all is_digit cs) (digit_from c h.0 h.1) e;
}) value_on (record { empty = λ n. refl; more = λ n c cs h. ap (λ m. value_on m cs) (omega arith) })

-- a number from 0 with no needless zero
pub record IsNumber (ds : List ℕ) : Type 0 where
  pub digits : list_all is_digit ds ≡ true
  pub nonempty : 0 < length ds
  pub lead : get_or ds 0 0 ≡ 48 → length ds ≡ 1

pub number_of-is : (ds : List ℕ) → IsNumber ds → number_of ds ≡ Some (value_on 0 ds)
number_of-is [] r = absurd (omega (arith, r.nonempty))
number_of-is (b ∷ []) r =
    let h = and_parts (is_digit b) true r.digits in
    cond-true (is_digit b) (Some (b - 48)) None h.0 ∙ ap Some (omega arith)
number_of-is (b ∷ c ∷ bs) r =
    let h = and_parts (is_digit b) (list_all is_digit (c ∷ bs)) r.digits in
    let n : not (b == 48) ≡ true =
    not_from_false (b == 48) (ne_eqb b 48 (λ e. omega (arith, r.lead e))) in
    let all : (is_digit b && not (b == 48) && list_all is_digit (c ∷ bs)) ≡ true =
    and_from (is_digit b && not (b == 48)) (list_all is_digit (c ∷ bs))
    (and_from (is_digit b) (not (b == 48)) h.0 n) h.1 in
    cond-true (is_digit b && not (b == 48) && list_all is_digit (c ∷ bs))
    (Some (value_on 0 (b ∷ c ∷ bs))) None all

pub is_number : (ds : List ℕ) (n : ℕ) → number_of ds ≡ Some n → IsNumber ds × (value_on 0 ds ≡ n)
is_number [] n e = absurd (none-some n e)
is_number (b ∷ []) n e =
    let h = cond_some (is_digit b) (b - 48) n e in (
      record {
        digits = and_from (is_digit b) true h.0 refl;
        nonempty = omega arith;
        lead = λ _. refl;
      },
      omega (arith, h.1),
    )
is_number (b ∷ c ∷ bs) n e =
    let h =
    cond_some (is_digit b && not (b == 48) && list_all is_digit (c ∷ bs))
    (value_on 0 (b ∷ c ∷ bs)) n e in
    let k = and_parts (is_digit b && not (b == 48)) (list_all is_digit (c ∷ bs)) h.0 in
    let m = and_parts (is_digit b) (not (b == 48)) k.0 in (
      record {
        digits = and_from (is_digit b) (list_all is_digit (c ∷ bs)) m.0 k.1;
        nonempty = omega arith;
        lead = λ q. absurd (eqb-false b 48 (not-true (b == 48) m.1) q);
      },
      h.1,
    )

pub is_number-decimal : (n : ℕ) → n < 2 ^ 64 → IsNumber (decimal n)
is_number-decimal n small = record {
  digits = digits_decimal decimal_numerals n small;
  nonempty = decimal_nonempty n small;
  lead = λ e. elim (cases_eq n 0) [
    | inl z ↦ ap length (ap decimal z ∙ decimal_digit 0 (omega arith))
    | inr z ↦ absurd (omega (arith, first_decimal n (omega arith) small, e))
  ];
}

pub number_of-decimal : (n : ℕ) → n < 2 ^ 64 → number_of (decimal n) ≡ Some n
number_of-decimal n small = number_of-is (decimal n) (is_number-decimal n small)
    ∙ ap Some (digits_value-decimal decimal_numerals n small)

pub decimal-number_of : (ds : List ℕ) (n : ℕ) → number_of ds ≡ Some n → n < 2 ^ 64 → ds ≡ decimal n
decimal-number_of ds n e small =
    let h = is_number ds n e in
    let v : value_on 0 ds < 2 ^ 64 = omega (arith, h.1) in
    sym (decimal-digits_value decimal_numerals ds h.0.digits h.0.nonempty h.0.lead v)
    ∙ ap decimal h.1

-- literals
pub literal_of-number : (ds : List ℕ) (n : ℕ) → number_of ds ≡ Some (suc n)
    → literal_of ds ≡ Some (record { variable = suc n; negated = false })
literal_of-number [] n e = absurd (none-some (suc n) e)
literal_of-number (b ∷ bs) n e =
    let r = is_number (b ∷ bs) (suc n) e in
    let d = and_parts (is_digit b) (list_all is_digit bs) r.0.digits in
    let low = digit_bounds b d.0 in
    let no_dash : (b == 45) ≡ false = ne_eqb b 45 (omega (arith, low.0)) in
    rw (no_dash, e)

literal_of-text_at : (s : Bool) (v : ℕ) → 0 < v → v < 2 ^ 64
    → literal_of (if s then 45 ∷ decimal v else decimal v)
    ≡ Some (record { variable = v; negated = s })
literal_of-text_at s zero p small = absurd (omega arith)
literal_of-text_at true (suc n) p small = rw (number_of-decimal (suc n) small)
literal_of-text_at false (suc n) p small =
    literal_of-number (decimal (suc n)) n (number_of-decimal (suc n) small)

pub literal_of-text : (l : Literal) → 0 < l.variable → l.variable < 2 ^ 64
    → literal_of (literal_text l) ≡ Some l
literal_of-text l p small = literal_of-text_at l.negated l.variable p small

text_with_dash : (bs : List ℕ) (l : Literal) (o : Option ℕ) → number_of bs ≡ o
    → literal_of (45 ∷ bs) ≡ Some l → l.variable < 2 ^ 64
    → (45 ∷ bs ≡ literal_text l) × (0 < l.variable)
text_with_dash bs l None q e small = absurd (none-some l (rw q at e))
text_with_dash bs l (Some zero) q e small = absurd (none-some l (rw q at e))
text_with_dash bs l (Some (suc n)) q e small =
    let m : Literal = record { variable = suc n; negated = true } in
    let same : m ≡ l = same_Some m l (rw q at e) in
    let v : suc n ≡ l.variable = ap (λ (k : Literal). k.variable) same in
    subst (λ (k : Literal). (45 ∷ bs ≡ literal_text k) × (0 < k.variable)) same
    (ap (λ ds. 45 ∷ ds) (decimal-number_of bs (suc n) q (omega arith)), omega arith)

text_with_none : (b : ℕ) (bs : List ℕ) (l : Literal) (o : Option ℕ) → (b == 45) ≡ false
    → number_of (b ∷ bs) ≡ o → literal_of (b ∷ bs) ≡ Some l → l.variable < 2 ^ 64
    → (b ∷ bs ≡ literal_text l) × (0 < l.variable)
text_with_none b bs l None d q e small = absurd (none-some l (rw (d, q) at e))
text_with_none b bs l (Some zero) d q e small = absurd (none-some l (rw (d, q) at e))
text_with_none b bs l (Some (suc n)) d q e small =
    let m : Literal = record { variable = suc n; negated = false } in
    let same : m ≡ l = same_Some m l (rw (d, q) at e) in
    let v : suc n ≡ l.variable = ap (λ (k : Literal). k.variable) same in
    subst (λ (k : Literal). (b ∷ bs ≡ literal_text k) × (0 < k.variable)) same
    (decimal-number_of (b ∷ bs) (suc n) q (omega arith), omega arith)

pub text-literal_of : (t : List ℕ) (l : Literal) → literal_of t ≡ Some l → l.variable < 2 ^ 64
    → (t ≡ literal_text l) × (0 < l.variable)
text-literal_of [] l e small = absurd (none-some l e)
text-literal_of (b ∷ bs) l e small =
    elim (cases_Bool (b == 45)) [
      | inl d ↦ let same : b ≡ 45 = eqb-true b 45 d in
          rw same (text_with_dash bs l (number_of bs) refl (rw same at e) small)
      | inr d ↦ text_with_none b bs l (number_of (b ∷ bs)) d refl e small
    ]
