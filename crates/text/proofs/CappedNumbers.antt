-- Numbers that are told exactly up to a bound, read digit by digit.
use Rattle.std.proofs.Common.{◌≡◌, ℕ, ◌+◌, ◌-◌, ◌*◌, ◌≤◌, ◌<◌, true, List, [], ◌∷◌, ◌++◌, inl, inr}
use Rattle.std.proofs.Common.{refl, sym, ◌∙◌, ap, arith, length, get_or, take}
use Rattle.std.specs.List.{list_all}
use Rattle.std.proofs.lemmas.Bool.{cases_lt, le-leb, lt-leb, cond-true, cond-false}
use Rattle.std.proofs.lemmas.List.{take_more, get_or_default}
use Rattle.std.proofs.lemmas.List.Sums.{list_all-from_AllPass}
use Rattle.text.specs.Text.{is_digit, value_on, capped}

pub capped-low : (n : ℕ) → n ≤ 4611686018427387904 → capped n ≡ n
capped-low n l = cond-true _ n 4611686018427387905 (le-leb n 4611686018427387904 l)

pub capped-high : (n : ℕ) → 4611686018427387904 < n → capped n ≡ 4611686018427387905
capped-high n l = cond-false _ n 4611686018427387905 (lt-leb n 4611686018427387904 l)

-- one more digit after a capped value
pub capped-digit : (v d : ℕ) → capped (10 * capped v + d) ≡ capped (10 * v + d)
capped-digit v d =
    elim (cases_lt 4611686018427387904 v) [
      | inl high ↦ rw (capped-high v high) (capped-high (10 * 4611686018427387905 + d) (omega arith)
          ∙ sym (capped-high (10 * v + d) (omega arith)))
      | inr low ↦ ap (λ n. capped (10 * n + d)) (capped-low v low)
    ]

pub value_on-push : (n : ℕ) (ds : List ℕ) (b : ℕ)
    → value_on n (ds ++ b ∷ []) ≡ 10 * value_on n ds + (b - 48)
value_on-push n [] b = refl
value_on-push n (c ∷ cs) b = value_on-push (10 * n + (c - 48)) cs b

-- one more digit after two values that are told alike
capped-alike : (v w d : ℕ) → capped v ≡ capped w → capped (10 * v + d) ≡ capped (10 * w + d)
capped-alike v w d e =
    sym (capped-digit v d) ∙ ap (λ n. capped (10 * n + d)) e ∙ capped-digit w d

-- the value so far, with the digit at i
pub capped-more : (ds : List ℕ) (i v w : ℕ) → i < length ds
    → capped v ≡ capped (value_on 0 (take i ds)) → capped w ≡ capped (10 * v + (get_or ds i 0 - 48))
    → capped w ≡ capped (value_on 0 (take (i + 1) ds))
capped-more ds i v w l before after =
    after ∙ capped-alike v (value_on 0 (take i ds)) (get_or ds i 0 - 48) before
    ∙ ap capped (sym (value_on-push 0 (take i ds) (get_or ds i 0))
    ∙ ap (value_on 0) (sym (take_more ds i 0 l)))

-- a value within the limit is told as it is
pub capped-exact : (n : ℕ) → capped n ≤ 4611686018427387904 → n ≡ capped n
capped-exact n l =
    elim (cases_lt 4611686018427387904 n) [
      | inl high ↦ absurd (omega (arith, capped-high n high))
      | inr low ↦ sym (capped-low n low)
    ]

pub all_digits : (ds : List ℕ) → ((k : ℕ) → k < length ds → is_digit (get_or ds k 0) ≡ true)
    → list_all is_digit ds ≡ true
all_digits ds h =
    list_all-from_AllPass is_digit ds (λ k d l. rw (get_or_default ds k d 0 l) (h k l))
