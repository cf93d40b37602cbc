-- The clauses of a comparator: no complementary literals, none empty but for the bound 0, and no
-- variables but those of the outputs.
use Rattle.std.proofs.Common.{◌≡◌, ℕ, zero, suc, ◌+◌, ◌/◌, ◌^◌, ◌<◌, true, false, not, List, []}
use Rattle.std.proofs.Common.{◌∷◌, length, reverse, Option, Some, None, ◌==◌, if◌then◌else◌, refl}
use Rattle.std.proofs.Common.{subst, arith}
use Rattle.std.specs.List.{AllByRecursion}
use Rattle.cnf.specs.Literal.{Literal, literal_eq}
use Rattle.cnf.specs.Clause.{without_literal, distinct, is_tautology}
use Rattle.adder.specs.Network.{bit}
use Rattle.adder.proofs.Laws.{AreOf, IsOutputOf}
use Rattle.bound.specs.Bound.{no, kept, above, rising_clauses, comparator_of}
use Rattle.bound.proofs.Subsets.{all_reverse}
use Rattle.bound.proofs.Covers.{rising_each}

no_clause : (c : List Literal) → None ≡ Some c → ⊥
no_clause c h = cc

same_clause : (c d : List Literal) → Some c ≡ Some d → c ≡ d
same_clause c d h = cc

-- what holds of each clause, and is kept where repeats are dropped, holds of each that is kept
kept_each : (P : List Literal → Type 0) → ((c : List Literal) → P c → P (distinct c))
    → (cs : List (List Literal)) → AllByRecursion P cs → AllByRecursion P (kept cs)
kept_each P f [] h = tt
kept_each P f (c ∷ cs) h =
    elim (is_tautology (distinct c)) as (λ b. AllByRecursion P (if not b then distinct c ∷ kept cs
    else kept cs)) [
      | true ↦ kept_each P f cs h.1
      | false ↦ (f c h.0, kept_each P f cs h.1)
    ]

kept_open : (cs : List (List Literal)) → AllByRecursion (λ c. is_tautology c ≡ false) (kept cs)
kept_open [] = tt
kept_open (c ∷ cs) =
    elim (is_tautology (distinct c)) as (λ b. is_tautology (distinct c) ≡ b
    → AllByRecursion (λ c. is_tautology c ≡ false) (if not b then distinct c ∷ kept cs
    else kept cs)) [
      | true ↦ λ e. kept_open cs
      | false ↦ λ e. (e, kept_open cs)
    ] refl

-- no clause has complementary literals
pub comparator_open : (outputs : List (Option Literal)) (k : ℕ)
    → AllByRecursion (λ c. is_tautology c ≡ false) (comparator_of outputs k)
comparator_open outputs zero = (refl, tt)
comparator_open outputs (suc limit) = kept_open (reverse (rising_clauses outputs limit 0))

-- no clause is empty
abbrev IsSome : List Literal → Type 0
IsSome c = 0 < length c

distinct_some : (c : List Literal) → IsSome c → IsSome (distinct c)
distinct_some [] h = h
distinct_some (l ∷ c) h = omega arith

rising_some : (outputs : List (Option Literal)) (limit j : ℕ)
    → AllByRecursion IsSome (rising_clauses outputs limit j)
rising_some [] limit j = tt
rising_some (o ∷ outputs) limit j =
    rising_each IsSome o outputs limit j (λ e l c same f. omega arith)
    (rising_some outputs limit (j + 1))

pub comparator_some : (outputs : List (Option Literal)) (k : ℕ) → 0 < k
    → AllByRecursion (λ c. 0 < length c) (comparator_of outputs k)
comparator_some outputs zero h = absurd (omega arith)
comparator_some outputs (suc limit) h =
    kept_each IsSome distinct_some (reverse (rising_clauses outputs limit 0))
    (all_reverse IsSome (rising_clauses outputs limit 0) (rising_some outputs limit 0))

-- Q holds of the variables
module _ (Q : ℕ → Type 0) where
  without_of : (k : Literal) (c : List Literal) → AreOf Q c → AreOf Q (without_literal k c)
  without_of k [] h = tt
  without_of k (l ∷ c) h =
      elim (literal_eq k l) as (λ b. AreOf Q (if not b then l ∷ without_literal k c
      else without_literal k c)) [
        | true ↦ without_of k c h.1
        | false ↦ (h.0, without_of k c h.1)
      ]

  pub distinct_of : (c : List Literal) → AreOf Q c → AreOf Q (distinct c)
  distinct_of [] h = tt
  distinct_of (l ∷ c) h = (h.0, without_of l (distinct c) (distinct_of c h.1))

  above_of : (outputs : List (Option Literal)) (limit j : ℕ) (c : List Literal)
      → AllByRecursion (IsOutputOf Q) outputs → above outputs limit j ≡ Some c → AreOf Q c
  above_of [] limit j c h e =
      elim (limit / 2 ^ j == 0) as (λ b. (limit / 2 ^ j == 0) ≡ b → AreOf Q c) [
        | true ↦ λ f. subst (AreOf Q) (same_clause [] c (rw f at e)) tt
        | false ↦ λ f. absurd (no_clause c (rw f at e))
      ] refl
  above_of (o ∷ outputs) limit j c h e =
      elim (bit limit j) as (λ b. bit limit j ≡ b → AreOf Q c) [
        | false ↦ λ f. above_of outputs limit (j + 1) c h.1 (rw f at e)
        | true ↦ λ f. led o h.0 f e (λ c. above_of outputs limit (j + 1) c h.1)
      ] refl
    where
      led : (o : Option Literal) → IsOutputOf Q o → bit limit j ≡ true
          → above (o ∷ outputs) limit j ≡ Some c
          → ((c : List Literal) → above outputs limit (j + 1) ≡ Some c → AreOf Q c) → AreOf Q c
      led None q f e rest = absurd (no_clause c (rw f at e))
      led (Some l) q f e rest =
          elim (above outputs limit (j + 1)) as (λ x. above outputs limit (j + 1) ≡ x → AreOf Q c) [
            | None ↦ λ g. absurd (no_clause c (rw (f, g) at e))
            | Some d ↦ λ g. subst (AreOf Q) (same_clause (no l ∷ d) c (rw (f, g) at e))
                (q, rest d g)
          ] refl

  pub rising_of : (outputs : List (Option Literal)) (limit j : ℕ)
      → AllByRecursion (IsOutputOf Q) outputs
      → AllByRecursion (AreOf Q) (rising_clauses outputs limit j)
  rising_of [] limit j h = tt
  rising_of (o ∷ outputs) limit j h =
      rising_each (AreOf Q) o outputs limit j (λ e l c same f. (
        subst (IsOutputOf Q) same h.0,
        above_of outputs limit (j + 1) c h.1 f,
      )) (rising_of outputs limit (j + 1) h.1)

  pub compared_with : (outputs : List (Option Literal)) (k : ℕ)
      → AllByRecursion (IsOutputOf Q) outputs → AllByRecursion (AreOf Q) (comparator_of outputs k)
  compared_with outputs zero h = (tt, tt)
  compared_with outputs (suc limit) h =
      kept_each (AreOf Q) distinct_of (reverse (rising_clauses outputs limit 0))
      (all_reverse (AreOf Q) (rising_clauses outputs limit 0) (rising_of outputs limit 0 h))
