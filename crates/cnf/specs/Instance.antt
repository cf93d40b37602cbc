-- What is known of each instance: the limits.
use Rattle.std.specs.Prelude.{◌≡◌, ℕ, ◌+◌, ◌<◌, ◌≤◌, false, List, length, sum_by, All}
use Rattle.cnf.specs.Literal.{Literal}
use Rattle.cnf.specs.Clause.{has_repeat, greatest_variable}
use Rattle.cnf.specs.Problem.{Problem}
use Rattle.cnf.specs.declared.limits.TheConstants.{MOST_VARIABLES, MOST_HARD, MOST_SOFT}
use Rattle.cnf.specs.declared.limits.TheConstants.{MOST_LITERALS, NUMBER_LIMIT}

abbrev pub IsClauseWithin : ℕ → List Literal → Type 0
IsClauseWithin variables c =
    (has_repeat c ≡ false) × All (λ l. 0 < l.variable) c × (greatest_variable c ≤ variables)

pub record IsInstance (p : Problem) : Type 0 where
  pub variables : p.variables ≤ MOST_VARIABLES
  pub hard_count : length p.hard ≤ MOST_HARD
  pub soft_count : length p.soft ≤ MOST_SOFT
  pub hard_clauses : All (IsClauseWithin p.variables) p.hard
  pub soft_clauses : All (λ s. IsClauseWithin p.variables s.clause) p.soft
  pub literals : sum_by length p.hard + sum_by (λ s. length s.clause) p.soft ≤ MOST_LITERALS
  pub weights : All (λ s. 0 < s.weight) p.soft
  pub weight_sum : sum_by (λ s. s.weight) p.soft < NUMBER_LIMIT
