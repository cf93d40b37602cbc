-- Where relaxation literals mean what they should, the weighted formula holds in each solution, and
-- the weights of those that are true are what it costs.
use Rattle.std.proofs.Common.{◌≡◌, ℕ, ◌+◌, ◌<◌, ◌≤◌, true, false, not, List, [], ◌∷◌}
use Rattle.std.proofs.Common.{map, filter, sum_by, if◌then◌else◌, refl, ◌∙◌, ap}
use Rattle.std.proofs.Common.{arith}
use Rattle.std.specs.List.{AllByRecursion}
use Rattle.std.proofs.lemmas.List.Sums.{sum_by-cons}
use Rattle.std.proofs.lemmas.List.Elements.{recursion_from_All, All-weaker}
use Rattle.cnf.specs.Literal.{Assignment, Literal, literal_value}
use Rattle.cnf.specs.Clause.{Satisfies, greatest_variable, is_tautology}
use Rattle.cnf.specs.Problem.{Problem, SoftClause, IsFeasible, AreWithin, cost_under}
use Rattle.cnf.specs.Instance.{IsInstance, IsClauseWithin}
use Rattle.cnf.proofs.Laws.{all_append, tautologies_true}
use Rattle.adder.specs.declared.profiles.Profile.TheVariants.{Two}
use Rattle.adder.specs.declared.profiles.Relaxing.TheVariants.{UnitsByNegation}
use Rattle.adder.specs.Network.{Relaxed, relaxed_as, relaxed_variables, SameUpTo}
use Rattle.adder.proofs.Laws.{AreRelaxedBelow, IsRelaxedTightly, relaxed_below, relaxed_choice}
use Rattle.bound.specs.Bound.{kept, relaxed_clauses}
use Rattle.bound.specs.Weighted.{weighted_cnf, weights_in, weights_of}
use Rattle.cnf.specs.declared.limits.TheConstants.{NUMBER_LIMIT}
use Rattle.bound.proofs.Cheaper.{cost_below, clauses_same, cost_same, given_up, soft_within}
use Rattle.bound.proofs.Cheaper.{tight_clauses}
use Rattle.bound.proofs.Cheaper.{tight_cost, tight_same}
use Rattle.bound.proofs.Clauses.{all_true-from, all_true-kept, from_all_true}

-- each relaxation literal is true just where its clause is false
abbrev pub AreTight : Assignment → Problem → Type 0
AreTight t p = AllByRecursion (IsRelaxedTightly t) (relaxed_as Two p)

soft_of : (p : Problem) → IsInstance p → AreWithin p.variables p.soft
soft_of p h =
    recursion_from_All _ p.soft
    (All-weaker (λ (s : SoftClause). IsClauseWithin p.variables s.clause)
    (λ s. greatest_variable s.clause ≤ p.variables) (λ s w. w.2) p.soft h.soft_clauses)

hard_of : (p : Problem) → IsInstance p
    → AllByRecursion (λ c. greatest_variable c ≤ p.variables) p.hard
hard_of p h =
    recursion_from_All _ p.hard
    (All-weaker (IsClauseWithin p.variables) (λ c. greatest_variable c ≤ p.variables)
    (λ c w. w.2) p.hard h.hard_clauses)

pub weighted_hold : (p : Problem) (t : Assignment) → IsFeasible p t → AreTight t p
    → AllByRecursion (Satisfies t) (weighted_cnf p).clauses
weighted_hold p t feasible tight =
    let A = kept p.hard in
    let B = kept (relaxed_clauses Two p) in
    let hard = all_true-kept t p.hard ∙ all_true-from t p.hard feasible in
    let soft = all_true-kept t (relaxed_clauses Two p) ∙ tight_clauses t (relaxed_as Two p) tight in
    all_append (Satisfies t) A B
    (recursion_from_All (Satisfies t) A (from_all_true t A hard))
    (recursion_from_All (Satisfies t) B (from_all_true t B soft))

-- a tautology is given up nowhere
weights_given : (t : Assignment) (es : List Relaxed) → AllByRecursion (IsRelaxedTightly t) es
    → sum_by (λ (w : ℕ × Literal). if literal_value t w.1 then w.0 else 0) (weights_in es)
    ≡ sum_by (given_up t) es
weights_given t [] h = refl
weights_given t (e ∷ es) h =
    let rest = filter (λ (x : Relaxed). not (is_tautology (x.soft).clause)) es in
    let pair : Relaxed → ℕ × Literal = λ x. ((x.soft).weight, x.literal) in
    let one = sum_by-cons (given_up t) e es in
    let two = sum_by-cons (λ (w : ℕ × Literal). if literal_value t w.1 then w.0 else 0) (pair e)
    (map pair rest) in
    let more = weights_given t es h.1 in
    elim (is_tautology (e.soft).clause) as (λ b. is_tautology (e.soft).clause ≡ b
    → sum_by (λ (w : ℕ × Literal). if literal_value t w.1 then w.0 else 0)
    (map pair (if not b then e ∷ rest else rest)) ≡ sum_by (given_up t) (e ∷ es)) [
      | true ↦ λ q.
          let off : literal_value t e.literal ≡ false
          = h.0 ∙ ap not (tautologies_true t (e.soft).clause q) in
          let none : given_up t e ≡ 0 = ap (λ b. if b then (e.soft).weight else 0) off in
          omega (arith, one, more, none)
      | false ↦ λ q. omega (arith, one, two, more)
    ] refl

pub weighted_cost : (p : Problem) (t : Assignment) → AreTight t p
    → sum_by (λ (w : ℕ × Literal). if literal_value t w.1 then w.0 else 0) (weights_of p)
    ≡ cost_under p t
weighted_cost p t tight =
    weights_given t (relaxed_as Two p) tight
    ∙ tight_cost t UnitsByNegation (p.variables + 1) p.soft tight

-- any values of the instance's variables extend to the relaxation literals
pub weighted_choice : (p : Problem) → IsInstance p → (u : Assignment)
    → (t : Assignment) × SameUpTo p.variables u t × AreTight t p
weighted_choice p h u =
    let r = relaxed_choice p.variables UnitsByNegation (p.variables + 1) p.soft u (soft_of p h)
    (omega arith) in
    (r.0, λ v le. r.1 v (omega arith), r.2)

below_all : (p : Problem) → IsInstance p
    → AreRelaxedBelow (relaxed_variables Two p + 1) (relaxed_as Two p)
below_all p h =
    relaxed_below p.variables UnitsByNegation (p.variables + 1) p.soft
    (relaxed_variables Two p + 1) (soft_of p h) (omega arith) (omega arith)

below_more : (n m : ℕ) (es : List Relaxed) → n ≤ m → AreRelaxedBelow n es → AreRelaxedBelow m es
below_more n m [] le h = tt
below_more n m (e ∷ es) le h = (omega (arith, h.0), below_more n m es le h.1)

-- their meaning is of the variables of the formula alone
pub weighted_same : (p : Problem) → IsInstance p → (m : ℕ) → relaxed_variables Two p ≤ m
    → (t u : Assignment) → SameUpTo m t u → AreTight t p → AreTight u p
weighted_same p h m le t u same tight =
    tight_same p.variables m t u (relaxed_as Two p) (omega arith) same
    (below_more (relaxed_variables Two p + 1) (m + 1) (relaxed_as Two p) (omega arith)
    (below_all p h))
    (soft_within p.variables UnitsByNegation (p.variables + 1) p.soft (soft_of p h)) tight

weights_below : (n : ℕ) (es : List Relaxed) → AreRelaxedBelow n es
    → AllByRecursion (λ (w : ℕ × Literal). (w.1).variable < n) (weights_in es)
weights_below n [] h = tt
weights_below n (e ∷ es) h =
    elim (is_tautology (e.soft).clause) as (λ b. AllByRecursion
    (λ (w : ℕ × Literal). (w.1).variable < n)
    (map (λ x. ((x.soft).weight, x.literal)) (if not b then e ∷ filter
    (λ x. not (is_tautology (x.soft).clause)) es else filter
    (λ x. not (is_tautology (x.soft).clause)) es))) [
      | true ↦ weights_below n es h.1
      | false ↦ (h.0, weights_below n es h.1)
    ]

pub weighted_below : (p : Problem) → IsInstance p
    → AllByRecursion (λ (w : ℕ × Literal). (w.1).variable < relaxed_variables Two p + 1)
    (weights_of p)
weighted_below p h = weights_below (relaxed_variables Two p + 1) (relaxed_as Two p) (below_all p h)

-- a solution, and what it costs, are of the instance's variables alone
pub feasible_same : (p : Problem) → IsInstance p → (t u : Assignment) → SameUpTo p.variables t u
    → IsFeasible p t → IsFeasible p u
feasible_same p h t u same feasible =
    from_all_true u p.hard (clauses_same p.variables t u p.hard same (hard_of p h)
    ∙ all_true-from t p.hard feasible)

pub solution_cost : (p : Problem) → IsInstance p → (t u : Assignment) → SameUpTo p.variables t u
    → cost_under p u ≡ cost_under p t
solution_cost p h t u same = cost_same p.variables t u p.soft same (soft_of p h)

-- each cost is below the limit of numbers
pub solution_small : (p : Problem) → IsInstance p → (t : Assignment)
    → cost_under p t < NUMBER_LIMIT
solution_small p h t = omega (arith, cost_below p t, h.weight_sum)
