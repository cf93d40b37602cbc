-- Rows within the limits make an instance: what holds of the literals as written holds of them with
-- repeats dropped.
use Rattle.std.proofs.Common.{◌≡◌, ℕ, ◌+◌, ◌^◌, ◌<◌, ◌≤◌, not, List, [], ◌∷◌, ◌++◌, map, inl}
use Rattle.std.proofs.Common.{inr, refl, sym, subst, arith, length, length-append}
use Rattle.std.specs.Prelude.{All, sum, sum_by}
use Rattle.std.specs.List.{flat_map}
use Rattle.std.proofs.lemmas.Bool.{cases_Bool}
use Rattle.std.proofs.lemmas.List.Elements.{All-nil, All-cons, All-head, All-tail, All-weaker}
use Rattle.std.proofs.lemmas.List.Elements.{All-filter}
use Rattle.std.proofs.lemmas.List.Sums.{sum_by-cons}
use Rattle.cnf.specs.Literal.{Literal, literal_eq}
use Rattle.cnf.specs.Clause.{without_literal, distinct}
use Rattle.cnf.specs.Clause.{greatest_variable}
use Rattle.cnf.specs.Problem.{Problem, SoftClause}
use Rattle.cnf.specs.Instance.{IsClauseWithin, IsInstance}
use Rattle.cnf.proofs.Laws.{repeat_distinct}
use Rattle.wcnf.specs.Wcnf.{Row, Ignored, Hard, Soft, hard_of, soft_of, row_literals, weight_of}
use Rattle.wcnf.specs.Wcnf.{IsWithinLimits, Reads}
use Rattle.wcnf.proofs.Drafting.{greatest-append}

greatest-without : (l : Literal) (c : List Literal)
    → greatest_variable (without_literal l c) ≤ greatest_variable c
greatest-without l [] = omega arith
greatest-without l (k ∷ c) =
    elim (cases_Bool (literal_eq l k)) [
      | inl e ↦ rw e (omega (arith, greatest-without l c))
      | inr e ↦ rw e (omega (arith, greatest-without l c))
    ]

length-without : (l : Literal) (c : List Literal) → length (without_literal l c) ≤ length c
length-without l [] = omega arith
length-without l (k ∷ c) =
    elim (cases_Bool (literal_eq l k)) [
      | inl e ↦ rw e (omega (arith, length-without l c))
      | inr e ↦ rw e (omega (arith, length-without l c))
    ]

-- a clause with each literal once
All-distinct : (P : Literal → Type 0) (c : List Literal) → All P c → All P (distinct c)
All-distinct P [] a = All-nil P
All-distinct P (l ∷ c) a =
    All-cons P l (without_literal l (distinct c)) (All-head P l c a)
    (All-filter (λ k. not (literal_eq l k)) P (distinct c) (All-distinct P c (All-tail P l c a)))

greatest-distinct : (c : List Literal) → greatest_variable (distinct c) ≤ greatest_variable c
greatest-distinct [] = omega arith
greatest-distinct (l ∷ c) = omega (arith, greatest-distinct c, greatest-without l (distinct c))

length-distinct : (c : List Literal) → length (distinct c) ≤ length c
length-distinct [] = omega arith
length-distinct (l ∷ c) = omega (arith, length-distinct c, length-without l (distinct c))

abbrev IsVariable : Literal → Type 0
IsVariable l = (0 < l.variable) × (l.variable ≤ 2 ^ 22)

All-parts : (xs ys : List Literal) → All IsVariable (xs ++ ys)
    → All IsVariable xs × All IsVariable ys
All-parts [] ys a = (All-nil IsVariable, a)
All-parts (x ∷ xs) ys a =
    let m = All-parts xs ys (All-tail IsVariable x (xs ++ ys) a) in
    (All-cons IsVariable x xs (All-head IsVariable x (xs ++ ys) a) m.0, m.1)

clause_within : (v : ℕ) (c : List Literal) → All IsVariable c → greatest_variable c ≤ v
    → IsClauseWithin v (distinct c)
clause_within v c a h = (
  repeat_distinct c,
  All-weaker IsVariable (λ l. 0 < l.variable) (λ l p. p.0) (distinct c)
      (All-distinct IsVariable c a),
  omega (arith, greatest-distinct c),
)

abbrev SoftWithin : ℕ → SoftClause → Type 0
SoftWithin v s = IsClauseWithin v s.clause

hard_within : (v : ℕ) (rs : List Row) → All IsVariable (flat_map row_literals rs)
    → greatest_variable (flat_map row_literals rs) ≤ v → All (IsClauseWithin v) (hard_of rs)
hard_within v [] a h = All-nil (IsClauseWithin v)
hard_within v (Ignored ∷ rs) a h = hard_within v rs a h
hard_within v (Hard c ∷ rs) a h =
    let m = All-parts c (flat_map row_literals rs) a in
    let g = greatest-append c (flat_map row_literals rs) in
    All-cons (IsClauseWithin v) (distinct c) (hard_of rs) (clause_within v c m.0 (omega (arith, g)))
    (hard_within v rs m.1 (omega (arith, g)))
hard_within v (Soft w c ∷ rs) a h =
    let m = All-parts c (flat_map row_literals rs) a in
    hard_within v rs m.1 (omega (arith, greatest-append c (flat_map row_literals rs)))

soft_within : (v : ℕ) (rs : List Row) → All IsVariable (flat_map row_literals rs)
    → greatest_variable (flat_map row_literals rs) ≤ v → All (SoftWithin v) (soft_of rs)
soft_within v [] a h = All-nil (SoftWithin v)
soft_within v (Ignored ∷ rs) a h = soft_within v rs a h
soft_within v (Hard c ∷ rs) a h =
    let m = All-parts c (flat_map row_literals rs) a in
    soft_within v rs m.1 (omega (arith, greatest-append c (flat_map row_literals rs)))
soft_within v (Soft w c ∷ rs) a h =
    let m = All-parts c (flat_map row_literals rs) a in
    let g = greatest-append c (flat_map row_literals rs) in
    let s : SoftClause = record { weight = w; clause = distinct c } in
    All-cons (SoftWithin v) s (soft_of rs) (clause_within v c m.0 (omega (arith, g)))
    (soft_within v rs m.1 (omega (arith, g)))

greatest_within : (c : List Literal) → All IsVariable c → greatest_variable c ≤ 2 ^ 22
greatest_within [] a = omega arith
greatest_within (l ∷ c) a =
    omega (arith, (All-head IsVariable l c a).1, greatest_within c (All-tail IsVariable l c a))

abbrev kept_literals : List Row → ℕ
kept_literals rs =
    sum_by length (hard_of rs) + sum_by (λ (s : SoftClause). length s.clause) (soft_of rs)

literals_within : (rs : List Row) → kept_literals rs ≤ length (flat_map row_literals rs)
literals_within [] = omega arith
literals_within (Ignored ∷ rs) = literals_within rs
literals_within (Hard c ∷ rs) =
    omega (
      arith,
      literals_within rs,
      length-distinct c,
      length-append c (flat_map row_literals rs),
      sum_by-cons length (distinct c) (hard_of rs),
    )
literals_within (Soft w c ∷ rs) =
    let s : SoftClause = record { weight = w; clause = distinct c } in
    omega (
      arith,
      literals_within rs,
      length-distinct c,
      length-append c (flat_map row_literals rs),
      sum_by-cons (λ (x : SoftClause). length x.clause) s (soft_of rs),
    )

weights_within : (rs : List Row)
    → sum_by (λ (s : SoftClause). s.weight) (soft_of rs) ≡ sum (map weight_of rs)
weights_within [] = refl
weights_within (Ignored ∷ rs) =
    omega (arith, weights_within rs, sum_by-cons (λ (x : ℕ). x) 0 (map weight_of rs))
weights_within (Hard c ∷ rs) =
    omega (arith, weights_within rs, sum_by-cons (λ (x : ℕ). x) 0 (map weight_of rs))
weights_within (Soft w c ∷ rs) =
    let s : SoftClause = record { weight = w; clause = distinct c } in
    omega (
      arith,
      weights_within rs,
      sum_by-cons (λ (x : ℕ). x) w (map weight_of rs),
      sum_by-cons (λ (x : SoftClause). x.weight) s (soft_of rs),
    )

greatest_at_most : (v : ℕ) (c : List Literal) → All (λ l. l.variable ≤ v) c
    → greatest_variable c ≤ v
greatest_at_most v [] a = omega arith
greatest_at_most v (l ∷ c) a =
    omega (
      arith,
      All-head (λ (x : Literal). x.variable ≤ v) l c a,
      greatest_at_most v c (All-tail (λ (x : Literal). x.variable ≤ v) l c a),
    )

rows_instance : (v : ℕ) (rs : List Row) → v ≤ 2 ^ 22
    → greatest_variable (flat_map row_literals rs) ≤ v → IsWithinLimits rs
    → IsInstance (record { variables = v; hard = hard_of rs; soft = soft_of rs })
rows_instance v rs m g w = record {
  variables = m;
  hard_count = w.hard;
  soft_count = w.soft;
  hard_clauses = hard_within v rs w.variables g;
  soft_clauses = soft_within v rs w.variables g;
  literals = omega (arith, literals_within rs, w.literals);
  weights = w.weights;
  weight_sum = omega (arith, weights_within rs, w.weight_sum);
}

pub reads_instance : (text : List ℕ) (p : Problem) → Reads text p → IsInstance p
reads_instance text p (inl (rs, a, w, e)) =
    let v = greatest_variable (flat_map row_literals rs) in
    subst IsInstance (sym e)
    (rows_instance v rs (greatest_within (flat_map row_literals rs) w.variables) (omega arith) w)
reads_instance text p (inr (h, rs, a, w, s, e)) =
    subst IsInstance (sym e)
    (rows_instance h.variables rs s.most_variables
    (greatest_at_most h.variables (flat_map row_literals rs) s.variables) w)
