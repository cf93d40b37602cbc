-- The weights sum to no more than those of the soft clauses, and their literals are over the
-- variables of the formula.
use Rattle.std.proofs.Common.{◌≡◌, ℕ, ◌+◌, ◌<◌, ◌≤◌, All, true, false, not, List, [], ◌∷◌}
use Rattle.std.proofs.Common.{map, filter, subst, sym, ◌∙◌, ap, refl, arith, if◌then◌else◌}
use Rattle.std.specs.Prelude.{sum_by}
use Rattle.std.specs.List.{AllByRecursion}
use Rattle.std.proofs.lemmas.List.Elements.{All-from_recursion, recursion_from_All}
use Rattle.std.proofs.lemmas.List.Sums.{sum_by-cons}
use Rattle.cnf.specs.Literal.{Literal}
use Rattle.cnf.specs.Clause.{is_tautology}
use Rattle.cnf.specs.Problem.{Problem}
use Rattle.cnf.specs.Instance.{IsInstance, IsClauseWithin}
use Rattle.cnf.specs.declared.limits.TheConstants.{NUMBER_LIMIT}
use Rattle.adder.specs.declared.profiles.Relaxing.TheVariants.{UnitsByNegation}
use Rattle.adder.specs.declared.profiles.Profile.TheVariants.{Two}
use Rattle.adder.specs.declared.relaxations.Relaxation.{Relaxation}
use Rattle.adder.specs.Network.{Relaxed, relaxed_as, relaxed_variables}
use Rattle.adder.specs.Parts.{weight_in}
use Rattle.adder.proofs.Laws.{relaxed_weights, relaxed_with}
use Rattle.bound.specs.Weighted.{weights_in, weights_of}
use Rattle.bound.proofs.Fits.{IsVariable, are_variables, plain_soft}

-- what holds of each literal holds of those that are kept
kept_literals : (Q : Literal → Type 0) (es : List Relaxed) → AllByRecursion (λ e. Q e.literal) es
    → AllByRecursion (λ (w : ℕ × Literal). Q w.1) (weights_in es)
kept_literals Q [] h = tt
kept_literals Q (e ∷ es) h =
    elim (is_tautology (e.soft).clause) as (λ b. AllByRecursion (λ (w : ℕ × Literal). Q w.1)
    (map (λ x. ((x.soft).weight, x.literal)) (if not b then e ∷ filter
    (λ x. not (is_tautology (x.soft).clause)) es else filter
    (λ x. not (is_tautology (x.soft).clause)) es))) [
      | true ↦ kept_literals Q es h.1
      | false ↦ (h.0, kept_literals Q es h.1)
    ]

weights_variables : (p : Problem) → IsInstance p
    → AllByRecursion (λ (w : ℕ × Literal). IsVariable (relaxed_variables Two p) (w.1).variable)
    (weights_of p)
weights_variables p h =
    let v = relaxed_variables Two p in
    let es = relaxed_as Two p in
    let soft =
    plain_soft p.variables v p.soft (omega arith)
    (recursion_from_All (λ s. IsClauseWithin p.variables s.clause) p.soft h.soft_clauses) in
    kept_literals (λ l. IsVariable v l.variable) es (are_variables v es
    (relaxed_with (IsVariable v) UnitsByNegation (p.variables + 1) p.soft soft
    (λ x l u. (omega arith, omega arith))))

kept_sum : (es : List Relaxed)
    → sum_by (λ w. w.0) (weights_in es) ≤ sum_by (λ e. (e.soft).weight) es
kept_sum [] = omega arith
kept_sum (e ∷ es) =
    let rest = filter (λ (x : Relaxed). not (is_tautology (x.soft).clause)) es in
    let pair : Relaxed → ℕ × Literal = λ x. ((x.soft).weight, x.literal) in
    let one = sum_by-cons (λ (x : Relaxed). (x.soft).weight) e es in
    let two = sum_by-cons (λ (w : ℕ × Literal). w.0) (pair e) (map pair rest) in
    let less = kept_sum es in
    elim (is_tautology (e.soft).clause) as (λ b. sum_by (λ (w : ℕ × Literal). w.0)
    (map pair (if not b then e ∷ rest else rest))
    ≤ sum_by (λ (x : Relaxed). (x.soft).weight) (e ∷ es)) [
      | true ↦ omega (arith, one, less)
      | false ↦ omega (arith, one, two, less)
    ]

weights_sum : (p : Problem) → IsInstance p → sum_by (λ w. w.0) (weights_of p) < NUMBER_LIMIT
weights_sum p h =
    omega (
      arith,
      kept_sum (relaxed_as Two p),
      relaxed_weights UnitsByNegation (p.variables + 1) p.soft,
      h.weight_sum,
    )

all_unmapped : (v : ℕ) (rs : List Relaxation)
    → AllByRecursion (λ (w : ℕ × Literal). IsVariable v (w.1).variable) (map weight_in rs)
    → AllByRecursion (λ r. (r.lit).variable ≤ v) rs
all_unmapped v [] h = tt
all_unmapped v (r ∷ rs) h = (h.0.1, all_unmapped v rs h.1)

sum_unmapped : (rs : List Relaxation)
    → sum_by (λ r. r.weight) rs ≡ sum_by (λ w. w.0) (map weight_in rs)
sum_unmapped [] = refl
sum_unmapped (r ∷ rs) =
    let one = sum_by-cons (λ (x : Relaxation). x.weight) r rs in
    let two = sum_by-cons (λ (w : ℕ × Literal). w.0) (weight_in r) (map weight_in rs) in
    omega (arith, one, two, sum_unmapped rs)

-- these are the weights of the instance
module _ (p : Problem) (h : IsInstance p) (rs : List Relaxation)
    (are : map weight_in rs ≡ weights_of p) where
  pub limits_variables : All (λ r. (r.lit).variable ≤ relaxed_variables Two p) rs
  limits_variables =
      let v = relaxed_variables Two p in
      All-from_recursion (λ r. (r.lit).variable ≤ v) rs (all_unmapped v rs
      (subst (AllByRecursion (λ (w : ℕ × Literal). IsVariable v (w.1).variable)) (sym are)
      (weights_variables p h)))

  pub limits_sum : sum_by (λ r. r.weight) rs < NUMBER_LIMIT
  limits_sum =
      subst (λ n. n < NUMBER_LIMIT)
      (sym (sum_unmapped rs ∙ ap (λ ws. sum_by (λ (w : ℕ × Literal). w.0) ws) are))
      (weights_sum p h)
