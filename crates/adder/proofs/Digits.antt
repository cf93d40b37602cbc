-- How many binary digits a word has.
use Rattle.std.proofs.Common.{◌≡◌, ℕ, zero, suc, ◌+◌, ◌-◌, ◌*◌, ◌/◌, ◌^◌, ◌<◌, ◌≤◌, true, false}
use Rattle.std.proofs.Common.{◌==◌, if◌then◌else◌, refl, sym, ◌∙◌, ap, arith, pow-suc}
use Rattle.std.proofs.lemmas.Nat.{pow_pos, leading_length}
use Rattle.std.specs.Int.Count.{count_leading_zeros}
use Rattle.std.proofs.lemmas.Bool.{eqb-true, eqb-false}
use Rattle.adder.specs.Network.{binary_length}
use Rattle.adder.proofs.Sums.{length_in}

-- the powers of two between which n lies tell how many digits it has
length_in_is : (k n m : ℕ) → n < 2 ^ k → n < 2 ^ m → 2 ^ m ≤ 2 * n + 1 → length_in k n ≡ m
length_in_is zero n zero h low high = refl
length_in_is zero n (suc m) h low high = absurd (omega (arith, pow-suc 2 m))
length_in_is (suc k) n m h low high =
    elim (n == 0) as (λ b. (n == 0) ≡ b → (if b then 0 else suc (length_in k (n / 2))) ≡ m) [
      | true ↦ λ e. none m low high (eqb-true n 0 e)
      | false ↦ λ e. some m (λ m l g. length_in_is k (n / 2) m (omega (arith, pow-suc 2 k)) l g) low
          high (eqb-false n 0 e)
    ] refl
  where
    none : (m : ℕ) → n < 2 ^ m → 2 ^ m ≤ 2 * n + 1 → n ≡ 0 → 0 ≡ m
    none zero low high e = refl
    none (suc m) low high e = absurd (omega (arith, pow-suc 2 m, pow_pos m))

    some : (m : ℕ) → ((m : ℕ) → n / 2 < 2 ^ m → 2 ^ m ≤ 2 * (n / 2) + 1 → length_in k (n / 2) ≡ m)
        → n < 2 ^ m → 2 ^ m ≤ 2 * n + 1 → (n ≡ 0 → ⊥) → suc (length_in k (n / 2)) ≡ m
    some zero half low high apart = absurd (apart (omega arith))
    some (suc m) half low high apart =
        ap suc (half m (omega (arith, pow-suc 2 m)) (omega (arith, pow-suc 2 m)))

pub binary_length_is : (n : ℕ) → n < 2 ^ 63 → 64 - count_leading_zeros 64 n ≡ binary_length n
binary_length_is n h =
    let r = leading_length 64 n (omega arith) in
    let long : 64 - count_leading_zeros 64 n ≡ r.0 = omega (arith, r.1) in
    long ∙ sym (length_in_is 63 n r.0 h r.2 r.3)
