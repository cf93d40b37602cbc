-- Numbers that count, numbers and tests that are one, and what stands under a number.
use Rattle.std.proofs.Common.{◌≡◌, ℕ, zero, suc, ◌<◌, ◌≤◌, Bool, true, false, List, length, None}
use Rattle.std.proofs.Common.{refl, sym, ◌∙◌, arith}
use Rattle.std.specs.Prelude.{◌==◌}
use Rattle.std.proofs.lemmas.Bool.{false≢true, eqb-true, eq-eqb, ne_eqb}
use Rattle.std.proofs.lemmas.Option.{slice_get_past}
use Rattle.cnf.specs.Literal.{Literal}
use Rattle.cnf.specs.Formula.{numbered}
use Rattle.cnf.specs.Numbers.{one_if}

pub one_if_le : (b : Bool) → one_if b ≤ 1
one_if_le true = omega arith
one_if_le false = omega arith

pub same_number : (m n : ℕ) → (m == n) ≡ (n == m)
same_number m n =
    elim (m == n) as (λ b. (m == n) ≡ b → b ≡ (n == m)) [
      | true ↦ λ e. sym (eq-eqb n m (sym (eqb-true m n e)))
      | false ↦ λ e. sym (ne_eqb n m (λ s. false≢true (sym e ∙ eq-eqb m n (sym s))))
    ] refl

-- tests that imply each other
pub tests_agree : (a b : Bool) → (a ≡ true → b ≡ true) → (b ≡ true → a ≡ true) → a ≡ b
tests_agree true b f g = sym (f refl)
tests_agree false true f g = g refl
tests_agree false false f g = refl

pub numbered_past : (cs : List (List Literal)) (i : ℕ) → length cs < i → numbered cs i ≡ None
numbered_past cs zero h = refl
numbered_past cs (suc i) h = slice_get_past cs i (omega arith)
