-- How many digits a number has.
use Rattle.std.proofs.Common.{◌≡◌, ℕ, ◌+◌, ◌*◌, ◌/◌, ◌^◌, ◌<◌, ◌≤◌, List, [], ◌∷◌, ap, ◌∙◌, inl}
use Rattle.std.proofs.Common.{inr, arith, length, length-append}
use Rattle.std.specs.Fmt.{decimal}
use Rattle.std.proofs.lemmas.Bool.{cases_lt}
use Rattle.std.proofs.lemmas.Fmt.{decimal_digit, decimal_step}

length_one : (n : ℕ) → n < 10 → length (decimal n) ≡ 1
length_one n h = ap length (decimal_digit n h)

length_step : (n : ℕ) → 10 ≤ n → n < 2 ^ 27 → length (decimal n) ≡ length (decimal (n / 10)) + 1
length_step n l h = ap length (decimal_step n l (omega arith)) ∙ length-append _ _

-- r says whether n is at least b
abbrev pub Tells : ℕ → ℕ → ℕ → Type 0
Tells n b r = (b ≤ n → r ≡ 1) × (n < b → r ≡ 0)

-- each of rs says whether n is at least b, ten times b and so on, and n is below the next
abbrev pub TellsFrom : ℕ → ℕ → List ℕ → Type 0
TellsFrom n b [] = n < b
TellsFrom n b (r ∷ rs) = Tells n b r × TellsFrom n (10 * b) rs

-- one digit, and one more for each bound that is reached
abbrev pub told : List ℕ → ℕ
told [] = 1
told (r ∷ rs) = r + told rs

-- they say the same of a tenth and a tenth of the bounds
tells_tenth : (n b : ℕ) (rs : List ℕ) → TellsFrom n (10 * b) rs → TellsFrom (n / 10) b rs
tells_tenth n b [] h = omega (arith, h)
tells_tenth n b (r ∷ rs) h =
    ((λ l. h.0.0 (omega arith), λ l. h.0.1 (omega arith)), tells_tenth n (10 * b) rs h.1)

-- as many are told as there are digits
all_told : (n : ℕ) (rs : List ℕ) → n < 2 ^ 27 → TellsFrom n 10 rs
    → told rs ≡ length (decimal n)
all_told n [] small h = omega (arith, length_one n h)
all_told n (r ∷ rs) small h =
    let tenth = all_told (n / 10) rs (omega arith) (tells_tenth n 10 rs h.1) in
    elim (cases_lt n 10) [
      | inl low ↦ omega (
        arith,
        tenth,
        h.0.1 low,
        length_one n low,
        length_one (n / 10) (omega arith),
      )
      | inr high ↦ omega (arith, tenth, h.0.0 high, length_step n high small)
    ]

-- one for each bound that is reached
pub counted : (n a b c d e f g h : ℕ) → n < 2 ^ 27 → Tells n 10 a → Tells n 100 b → Tells n 1000 c
    → Tells n 10000 d → Tells n 100000 e → Tells n 1000000 f → Tells n 10000000 g
    → Tells n 100000000 h → 1 + a + b + c + d + e + f + g + h ≡ length (decimal n)
counted n a b c d e f g h small ta tb tc td te tf tg th =
    let same = all_told n (a ∷ b ∷ c ∷ d ∷ e ∷ f ∷ g ∷ h ∷ []) small
    (ta, (tb, (tc, (td, (te, (tf, (tg, (th, omega arith)))))))) in
    omega (arith, same)
