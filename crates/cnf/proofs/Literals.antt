-- Literals that are one, complementary, or negated twice, and their places in a table of rows.
use Rattle.std.proofs.Common.{◌≡◌, ℕ, zero, suc, ◌+◌, ◌-◌, ◌*◌, ◌<◌, ◌≤◌, Bool, true, false, ◌||◌}
use Rattle.std.proofs.Common.{not, ◌&&◌, List, [], ◌∷◌, ◌++◌, length, get_or, ◌⊎◌, inl, inr, refl}
use Rattle.std.proofs.Common.{sym, ap, subst, arith}
use Rattle.std.specs.Prelude.{if◌then◌else◌, ◌==◌}
use Rattle.std.specs.List.{AllByRecursion}
use Rattle.std.proofs.lemmas.Bool.{and_from, and_right, or_left, or_right, eq-eqb}
use Rattle.std.proofs.lemmas.Bool.{both_ways, false_from_ne_true, false≢true, or_cases}
use Rattle.std.proofs.Math.Bool.{or-false, not-not}
use Rattle.cnf.specs.Literal.{Literal, negation, literal_eq, same_bool, index_of}
use Rattle.cnf.specs.Clause.{contains_literal}
use Rattle.cnf.proofs.Sound.{literal_eq-true}

same_bool-refl : (b : Bool) → same_bool b b ≡ true
same_bool-refl true = refl
same_bool-refl false = refl

pub literal_eq-refl : (l : Literal) → literal_eq l l ≡ true
literal_eq-refl l = and_from _ _ (eq-eqb l.variable l.variable refl) (same_bool-refl l.negated)

pub literal_eq_ne : (k l : Literal) → (k ≡ l → ⊥) → literal_eq k l ≡ false
literal_eq_ne k l n = false_from_ne_true (literal_eq k l) (λ e. n (literal_eq-true k l e))

pub literal_ne : (k l : Literal) → literal_eq k l ≡ false → k ≡ l → ⊥
literal_ne k l e s = both_ways (literal_eq k l) e (rw s (literal_eq-refl l))

same_bool-not : (b : Bool) → same_bool (not b) b ≡ false
same_bool-not true = refl
same_bool-not false = refl

pub literal_eq-complement : (l : Literal) → literal_eq (negation l) l ≡ false
literal_eq-complement l =
    and_right (l.variable == l.variable) (same_bool (not l.negated) l.negated)
    (same_bool-not l.negated)

signs_swapped : (a b : Bool) → same_bool a (not b) ≡ same_bool (not a) b
signs_swapped true true = refl
signs_swapped true false = refl
signs_swapped false true = refl
signs_swapped false false = refl

pub literal_eq-swapped : (k l : Literal) → literal_eq k (negation l) ≡ literal_eq (negation k) l
literal_eq-swapped k l =
    ap (λ b. (k.variable == l.variable) && b) (signs_swapped k.negated l.negated)

-- literals of one variable
same_variable_at : (a b : Bool) → (a ≡ b) ⊎ (a ≡ not b)
same_variable_at true true = inl refl
same_variable_at true false = inr refl
same_variable_at false true = inr refl
same_variable_at false false = inl refl

pub same_variable : (k l : Literal) → k.variable ≡ l.variable → (k ≡ l) ⊎ (k ≡ negation l)
same_variable k l e = elim (same_variable_at k.negated l.negated) [
  | inl h ↦ inl (λ i. record { variable = e i; negated = h i })
  | inr h ↦ inr (λ i. record { variable = e i; negated = h i })
]

index_same_at : (v w : ℕ) (s t : Bool) → 0 < v → 0 < w
    → 2 * (v - 1) + (if s then 1 else 0) ≡ 2 * (w - 1) + (if t then 1 else 0) → (v ≡ w) × (s ≡ t)
index_same_at v w true true p q e = (omega arith, refl)
index_same_at v w true false p q e = absurd (omega arith)
index_same_at v w false true p q e = absurd (omega arith)
index_same_at v w false false p q e = (omega arith, refl)

pub index_same : (k l : Literal) → 0 < k.variable → 0 < l.variable → index_of k ≡ index_of l → k ≡ l
index_same k l p q e =
    let h = index_same_at k.variable l.variable k.negated l.negated p q e in
    λ i. record { variable = h.0 i; negated = h.1 i }

index_below_at : (v : ℕ) (s : Bool) → 0 < v → 2 * (v - 1) + (if s then 1 else 0) < 2 * v
index_below_at v true p = omega arith
index_below_at v false p = omega arith

pub index_below : (l : Literal) (n : ℕ) → 0 < l.variable → l.variable ≤ n → index_of l < 2 * n
index_below l n p h = omega (arith, index_below_at l.variable l.negated p)

pub negation_twice : (l : Literal) → negation (negation l) ≡ l
negation_twice l = ap (λ b. record { variable = l.variable; negated = b }) (not-not l.negated)

-- one more literal at the end
pub contains-push : (m : Literal) (c : List Literal) (l : Literal)
    → contains_literal m (c ++ l ∷ []) ≡ (contains_literal m c || literal_eq m l)
contains-push m [] l = or-false (literal_eq m l)
contains-push m (k ∷ c) l =
    elim (literal_eq m k) as (λ b. (b || contains_literal m (c ++ l ∷ []))
    ≡ ((b || contains_literal m c) || literal_eq m l)) [
      | true ↦ refl
      | false ↦
          contains-push m c l
    ]

-- a literal that stands at some place
pub at_contains : (c : List Literal) (i : ℕ) (l : Literal) → i < length c → l ≡ get_or c i l
    → contains_literal l c ≡ true
at_contains [] i l h is = absurd (omega arith)
at_contains (k ∷ c) zero l h is =
    or_left (literal_eq l k) (contains_literal l c)
    (subst (λ x. literal_eq l x ≡ true) is (literal_eq-refl l))
at_contains (k ∷ c) (suc i) l h is =
    or_right (literal_eq l k) (contains_literal l c) (at_contains c i l (omega arith) is)

-- what holds of each literal, and of each that stands in the list
pub all_at : (P : Literal → Type 0) (c : List Literal) (k : Literal) → AllByRecursion P c
    → contains_literal k c ≡ true → P k
all_at P [] k h e = absurd (false≢true e)
all_at P (l ∷ c) k h e =
    elim (or_cases (literal_eq k l) (contains_literal k c) e) [
      | inl s ↦ subst P (sym (literal_eq-true k l s)) h.0
      | inr m ↦ all_at P c k h.1 m
    ]

pub all_from : (P : Literal → Type 0) (c : List Literal)
    → ((k : Literal) → contains_literal k c ≡ true → P k) → AllByRecursion P c
all_from P [] f = tt
all_from P (l ∷ c) f = (
  f l (or_left (literal_eq l l) (contains_literal l c) (literal_eq-refl l)),
  all_from P c (λ k m. f k (or_right (literal_eq k l) (contains_literal k c) m)),
)
