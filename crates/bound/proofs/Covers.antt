-- A comparator covers those of larger bounds.
use Rattle.std.proofs.Common.{◌≡◌, ℕ, zero, suc, ◌+◌, ◌/◌, ◌%◌, ◌^◌, ◌<◌, ◌≤◌, Bool, true, false}
use Rattle.std.proofs.Common.{List, [], ◌∷◌, Option, Some, None, ◌==◌, if◌then◌else◌, inl, inr}
use Rattle.std.proofs.Common.{refl, sym, ◌∙◌, ap, subst, arith}
use Rattle.std.specs.List.{AllByRecursion}
use Rattle.std.proofs.lemmas.Bool.{or_left, or_right, cases_eq, ne_eqb}
use Rattle.std.proofs.lemmas.Nat.{shr-shr}
use Rattle.std.proofs.lemmas.List.Elements.{All-from_recursion}
use Rattle.std.proofs.lemmas.List.Folds.{list_any-append}
use Rattle.cnf.specs.Numbers.{one_if}
use Rattle.cnf.specs.Literal.{Literal}
use Rattle.cnf.specs.Clause.{is_subset, IsCovered}
use Rattle.adder.specs.Network.{bit}
use Rattle.adder.proofs.Laws.{digit}
use Rattle.bound.specs.Bound.{no, above, rising_clauses, comparator_of, CoversLarger}
use Rattle.bound.proofs.Subsets.{covers, covers_more, subset_self, AreCovered, covered_kept}

rest_same : (m n j : ℕ) → m / 2 ^ j ≡ n / 2 ^ j → m / 2 ^ (j + 1) ≡ n / 2 ^ (j + 1)
rest_same m n j e = sym (shr-shr m j 1) ∙ ap (λ x. x / 2 ^ 1) e ∙ shr-shr n j 1

-- the same digits from j on have the same clause
same_above : (outputs : List (Option Literal)) (m n j : ℕ) → m / 2 ^ j ≡ n / 2 ^ j
    → above outputs m j ≡ above outputs n j
same_above [] m n j e = ap (λ (x : ℕ). if x == 0 then Some [] else None) e
same_above (o ∷ outputs) m n j e =
    let rest = same_above outputs m n (j + 1) (rest_same m n j e) in
    let first : bit m j ≡ bit n j = ap (λ x. x % 2 == 1) e in
    rw (first, rest) refl

covers_rest : (o : Option Literal) (outputs : List (Option Literal)) (m j : ℕ) (c : List Literal)
    → covers (rising_clauses outputs m (j + 1)) c ≡ true
    → covers (rising_clauses (o ∷ outputs) m j) c ≡ true
covers_rest o outputs m j c h =
    list_any-append (λ d. is_subset d c) _ (rising_clauses outputs m (j + 1))
    ∙ or_right _ (covers (rising_clauses outputs m (j + 1)) c) h

covers_here : (v : Literal) (outputs : List (Option Literal)) (m j : ℕ) (c : List Literal)
    → bit m j ≡ false → above outputs m (j + 1) ≡ Some c
    → covers (rising_clauses (Some v ∷ outputs) m j) (no v ∷ c) ≡ true
covers_here v outputs m j c e f =
    rw (e, f) (or_left (is_subset (no v ∷ c) (no v ∷ c))
    (covers (rising_clauses outputs m (j + 1)) (no v ∷ c)) (subset_self (no v ∷ c)))

-- what holds of the clauses of a rising list
pub rising_each : (P : List Literal → Type 0) (o : Option Literal) (outputs : List (Option Literal))
    (n j : ℕ)
    → (bit n j ≡ false → (v : Literal) (c : List Literal) → o ≡ Some v
    → above outputs n (j + 1) ≡ Some c → P (no v ∷ c))
    → AllByRecursion P (rising_clauses outputs n (j + 1))
    → AllByRecursion P (rising_clauses (o ∷ outputs) n j)
rising_each P o outputs n j here rest =
    elim (bit n j) as (λ b. bit n j ≡ b → AllByRecursion P (rising_clauses (o ∷ outputs) n j)) [
      | true ↦ λ e. rw e rest
      | false ↦ λ e. led o (here e) e
    ] refl
  where
    led : (o : Option Literal) → ((v : Literal) (c : List Literal) → o ≡ Some v
        → above outputs n (j + 1) ≡ Some c → P (no v ∷ c)) → bit n j ≡ false
        → AllByRecursion P (rising_clauses (o ∷ outputs) n j)
    led None here e = rw e rest
    led (Some v) here e =
        elim (above outputs n (j + 1)) as (λ x. above outputs n (j + 1) ≡ x
        → AllByRecursion P (rising_clauses (Some v ∷ outputs) n j)) [
          | None ↦ λ f. rw (e, f) rest
          | Some c ↦ λ f. rw (e, f) (here v c refl f, rest)
        ] refl

-- the clause of a digit that is not set in n, or of the digits of n above m
module _ (m n : ℕ) where
  -- the lead of a clause of n, where m is not above n from j on
  lead_covered : (v : Literal) (outputs : List (Option Literal)) (j : ℕ) (c : List Literal)
      → (m / 2 ^ (j + 1) < n / 2 ^ (j + 1) → covers (rising_clauses outputs m (j + 1)) c ≡ true)
      → (m / 2 ^ (j + 1) ≡ n / 2 ^ (j + 1) → bit m j ≡ false) → m / 2 ^ (j + 1) ≤ n / 2 ^ (j + 1)
      → above outputs n (j + 1) ≡ Some c
      → covers (rising_clauses (Some v ∷ outputs) m j) (no v ∷ c) ≡ true
  lead_covered v outputs j c less clear le f =
      elim (cases_eq (m / 2 ^ (j + 1)) (n / 2 ^ (j + 1))) [
        | inl same ↦ covers_here v outputs m j c (clear same) (same_above outputs m n (j + 1) same
            ∙ f)
        | inr apart ↦ covers_rest (Some v) outputs m j (no v ∷ c)
            (covers_more (no v) (rising_clauses outputs m (j + 1)) c (less (omega arith)))
      ]

  clear_from : (b : Bool) → one_if b ≡ 0 → b ≡ false
  clear_from true e = absurd (omega (arith, e))
  clear_from false e = refl

  bit_le : (b : Bool) → one_if b ≤ 1
  bit_le true = omega arith
  bit_le false = omega arith

  no_clause : (c : List Literal) → None ≡ Some c → ⊥
  no_clause c h = cc

  same_clause : (c d : List Literal) → Some c ≡ Some d → c ≡ d
  same_clause c d h = cc

  set_covered : (o : Option Literal) (outputs : List (Option Literal)) (j : ℕ) (c : List Literal)
      → ((c : List Literal) → m / 2 ^ (j + 1) < n / 2 ^ (j + 1) → above outputs n (j + 1) ≡ Some c
      → covers (rising_clauses outputs m (j + 1)) c ≡ true)
      → m / 2 ^ j < n / 2 ^ j → bit n j ≡ true → above (o ∷ outputs) n j ≡ Some c
      → covers (rising_clauses (o ∷ outputs) m j) c ≡ true
  set_covered None outputs j c rest lt f e = absurd (no_clause c (rw f at e))
  set_covered (Some v) outputs j c rest lt f e =
      elim (above outputs n (j + 1)) as (λ x. above outputs n (j + 1) ≡ x
      → covers (rising_clauses (Some v ∷ outputs) m j) c ≡ true) [
        | None ↦ λ g. absurd (no_clause c (rw (f, g) at e))
        | Some d ↦ λ g. subst (λ x. covers (rising_clauses (Some v ∷ outputs) m j) x ≡ true)
            (same_clause (no v ∷ d) c (rw (f, g) at e))
            (lead_covered v outputs j d (λ l. rest d l g)
            (λ same. clear_from (bit m j) (omega (
              arith,
              digit m j,
              digit n j,
              ap one_if f,
              bit_le (bit m j),
            )))
            (omega (arith, digit m j, digit n j, ap one_if f)) g)
      ] refl

  -- where m is below n from j on, the clause of n's digits is covered
  above_covered : (outputs : List (Option Literal)) (j : ℕ) (c : List Literal)
      → m / 2 ^ j < n / 2 ^ j → above outputs n j ≡ Some c
      → covers (rising_clauses outputs m j) c ≡ true
  above_covered [] j c lt e =
      let apart : n / 2 ^ j ≡ 0 → ⊥ = omega arith in
      let none : above [] n j ≡ None =
      ap (λ b. if b then Some [] else None) (ne_eqb (n / 2 ^ j) 0 apart) in
      absurd (no_clause c (sym none ∙ e))
  above_covered (o ∷ outputs) j c lt e =
      elim (bit n j) as (λ b. bit n j ≡ b → covers (rising_clauses (o ∷ outputs) m j) c ≡ true) [
        | false ↦ λ f. covers_rest o outputs m j c
            (above_covered outputs (j + 1) c (omega (
              arith,
              digit m j,
              digit n j,
              ap one_if f,
              bit_le (bit m j),
            )) (rw f at e))
        | true ↦ λ f. set_covered o outputs j c (above_covered outputs (j + 1)) lt f e
      ] refl

  -- where m is not above n from j on, each clause of n is covered
  pub rising_covered : (outputs : List (Option Literal)) (j : ℕ) → m / 2 ^ j ≤ n / 2 ^ j
      → AreCovered (rising_clauses outputs m j) (rising_clauses outputs n j)
  rising_covered [] j le = tt
  rising_covered (o ∷ outputs) j le =
      let below : m / 2 ^ (j + 1) ≤ n / 2 ^ (j + 1) =
      omega (arith, digit m j, digit n j, bit_le (bit m j), bit_le (bit n j)) in
      rising_each (λ c. covers (rising_clauses (o ∷ outputs) m j) c ≡ true) o outputs n j
      (λ f v c same e. subst (λ x. covers (rising_clauses (x ∷ outputs) m j) (no v ∷ c) ≡ true)
      (sym same)
      (lead_covered v outputs j c (λ l. above_covered outputs (j + 1) c l e)
      (λ same. clear_from (bit m j) (omega (arith, digit m j, digit n j, ap one_if f))) below
      e))
      (rest_covered (rising_clauses outputs n (j + 1)) (rising_covered outputs (j + 1) below))
    where
      rest_covered : (cs : List (List Literal)) → AreCovered (rising_clauses outputs m (j + 1)) cs
          → AreCovered (rising_clauses (o ∷ outputs) m j) cs
      rest_covered [] h = tt
      rest_covered (c ∷ cs) h = (covers_rest o outputs m j c h.0, rest_covered cs h.1)

-- the law of `comparator`, for any outputs and any bound
pub covers_larger : (outputs : List (Option Literal)) (k : ℕ) → CoversLarger outputs k
covers_larger outputs zero larger le = λ i d l. refl
covers_larger outputs (suc m) zero le = absurd (omega arith)
covers_larger outputs (suc m) (suc n) le =
    All-from_recursion (IsCovered (comparator_of outputs (suc m))) (comparator_of outputs (suc n))
    (covered_kept (rising_clauses outputs m 0) (rising_clauses outputs n 0)
    (rising_covered m n outputs 0 (omega arith)))
