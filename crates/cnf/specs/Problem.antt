-- Weighted partial MaxSAT: instances, their solutions, costs and optima.
use Rattle.std.specs.Prelude.{◌≡◌, ℕ, ◌≤◌, List, All, sum_by, if◌then◌else◌}
use Rattle.std.specs.List.{AllByRecursion}
use Rattle.cnf.specs.Literal.{Literal, Assignment}
use Rattle.cnf.specs.Clause.{clause_value, Satisfies, greatest_variable}

pub record SoftClause : Type 0 where
  pub weight : ℕ
  pub clause : List Literal

pub record Problem : Type 0 where
  pub variables : ℕ
  pub hard : List (List Literal)
  pub soft : List SoftClause

-- a solution: every hard clause is true
abbrev pub IsFeasible : Problem → Assignment → Type 0
IsFeasible p t = All (Satisfies t) p.hard

-- the weight of a soft clause that is false
abbrev pub cost_of : Assignment → SoftClause → ℕ
cost_of t s = if clause_value t s.clause then 0 else s.weight

-- the weights of the soft clauses that are false, each entry of the list by itself
abbrev pub cost_under : Problem → Assignment → ℕ
cost_under p t = sum_by (cost_of t) p.soft

-- the soft clauses name variables up to n
abbrev pub AreWithin : ℕ → List SoftClause → Type 0
AreWithin n ss = AllByRecursion (λ s. greatest_variable s.clause ≤ n) ss

pub record IsOptimal (p : Problem) (t : Assignment) (cost : ℕ) : Type 0 where
  pub feasible : IsFeasible p t
  pub exact : cost_under p t ≡ cost
  pub least : (u : Assignment) → IsFeasible p u → cost ≤ cost_under p u

abbrev pub IsInconsistent : Problem → Type 0
IsInconsistent p = (t : Assignment) → IsFeasible p t → ⊥
