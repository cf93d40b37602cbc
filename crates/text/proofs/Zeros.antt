-- Which token says 0.
use Rattle.std.proofs.Common.{◌≡◌, ℕ, List, [], ◌∷◌, Option, Some, None, inl, inr, refl, sym, ◌∙◌}
use Rattle.std.proofs.Common.{ap, arith}
use Rattle.std.specs.Prelude.{nat_le}
use Rattle.std.specs.Option.{option_map}
use Rattle.std.proofs.lemmas.Bool.{cases_Bool, cond-true, cond-false}
use Rattle.std.proofs.lemmas.Option.{none-some, same_Some}
use Rattle.std.proofs.lemmas.Fmt.{decimal_digit}
use Rattle.text.specs.Text.{number_of, capped}
use Rattle.text.specs.Words.{word_of, Zero}
use Rattle.text.proofs.Numbers.{decimal-number_of}

no_zero : {P : Type 0} → ◌≡◌ {A = ℕ} 4611686018427387905 0 → P
no_zero e = absurd (omega arith)

capped_zero : (n : ℕ) → capped n ≡ 0 → n ≡ 0
capped_zero n e =
    elim (cases_Bool (nat_le n 4611686018427387904)) [
      | inl h ↦ sym (cond-true (nat_le n 4611686018427387904) n 4611686018427387905 h) ∙ e
      | inr h ↦ no_zero (sym (cond-false (nat_le n 4611686018427387904) n 4611686018427387905 h)
          ∙ e)
    ]

number_zero : (t : List ℕ) (o : Option ℕ) → number_of t ≡ o → option_map capped o ≡ Some 0
    → number_of t ≡ Some 0
number_zero t None e h = absurd (none-some 0 h)
number_zero t (Some n) e h = e ∙ ap Some (capped_zero n (same_Some (capped n) 0 h))

pub zero_word : (t : List ℕ) → option_map capped (number_of t) ≡ Some 0 → word_of t ≡ Zero
zero_word t e =
    let z = number_zero t (number_of t) refl e in
    let same : t ≡ 48 ∷ [] = decimal-number_of t 0 z (omega arith)
    ∙ decimal_digit 0 (omega arith) in
    rw same refl
