-- The clauses of counts.
use Rattle.std.specs.Prelude.{ℕ, ◌<◌, ◌≤◌, List, All, length}
use Rattle.cnf.specs.Clause.{greatest_variable}
use Rattle.cnf.specs.Literal.{Literal}
use Rattle.lrat_log.specs.Axioms.{IsNewClause}

-- a clause of a count: its literals are of different variables, up to this one
pub record IsMadeClause (variables : ℕ) (c : List Literal) : Type 0 where
  pub new : IsNewClause c
  pub some : 0 < length c
  pub within : All (λ l. 0 < l.variable) c × (greatest_variable c ≤ variables)
