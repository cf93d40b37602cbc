-- Laws of the clauses that bits make false.
use Rattle.std.proofs.Common.{◌≡◌, ℕ, ◌+◌, true, false, List, [], ◌∷◌}
use Rattle.std.proofs.Common.{sum_by, refl, sym, ap, ◌∙◌, arith, if◌then◌else◌}
use Rattle.std.proofs.lemmas.List.Sums.{sum_by-cons}
use Rattle.cnf.specs.Literal.{Assignment, Literal}
use Rattle.cnf.specs.Clause.{clause_value}
use Rattle.cnf.specs.Problem.{SoftClause}
use Rattle.explain.specs.declared.falsified.GivenUp.{GivenUp}
use Rattle.explain.specs.Falsified.{false_soft_from, false_hard_from}

-- the weights of the false ones are what they cost
pub weights_cost : (t : Assignment) (i : ℕ) (ss : List SoftClause)
    → sum_by (λ g. g.weight) (false_soft_from t i ss)
    ≡ sum_by (λ s. if clause_value t s.clause then 0 else s.weight) ss
weights_cost t i [] = refl
weights_cost t i (s ∷ ss) =
    elim (clause_value t s.clause) as (λ b. sum_by (λ (g : GivenUp). g.weight)
    (if b then false_soft_from t (i + 1) ss
    else record { place = i; weight = s.weight } ∷ false_soft_from t (i + 1) ss)
    ≡ (if b then 0 else s.weight)
    + sum_by (λ (s : SoftClause). if clause_value t s.clause then 0 else s.weight) ss) [
      | true ↦ omega (arith, weights_cost t (i + 1) ss)
      | false ↦ sum_by-cons (λ (g : GivenUp). g.weight)
          (record { place = i; weight = s.weight }) (false_soft_from t (i + 1) ss)
          ∙ ap (λ n. s.weight + n) (weights_cost t (i + 1) ss)
    ]
    ∙ sym (sum_by-cons (λ (s : SoftClause). if clause_value t s.clause then 0 else s.weight) s ss)

pub hard_passed : (t : Assignment) (i : ℕ) (c : List Literal) (cs : List (List Literal))
    → clause_value t c ≡ true → false_hard_from t i (c ∷ cs) ≡ false_hard_from t (i + 1) cs
hard_passed t i c cs e =
    ap (λ b. if b then false_hard_from t (i + 1) cs else i ∷ false_hard_from t (i + 1) cs) e
