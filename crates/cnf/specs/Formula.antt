-- Formulas: clauses numbered from 1.
use Rattle.std.specs.Prelude.{◌≡◌, ℕ, zero, suc, ◌<◌, ◌≤◌, false, List, Option, None}
use Rattle.std.specs.Prelude.{slice_get, All}
use Rattle.cnf.specs.Literal.{Literal, Assignment}
use Rattle.cnf.specs.Clause.{Satisfies, has_repeat, is_tautology, greatest_variable}
use Rattle.cnf.specs.declared.limits.TheConstants.{FORMULA_VARIABLE_LIMIT}

pub record Cnf : Type 0 where
  pub variables : ℕ
  pub clauses : List (List Literal)

-- what is known of each clause of a formula with `variables` variables
pub record IsFormulaClause (variables : ℕ) (c : List Literal) : Type 0 where
  pub no_repeat : has_repeat c ≡ false
  pub no_tautology : is_tautology c ≡ false
  pub from_one : All (λ l. 0 < l.variable) c
  pub small : greatest_variable c ≤ variables

pub record IsFormula (f : Cnf) : Type 0 where
  pub few : f.variables < FORMULA_VARIABLE_LIMIT
  pub clauses : All (IsFormulaClause f.variables) f.clauses

-- a clause by its number
abbrev pub numbered : List (List Literal) → ℕ → Option (List Literal)
numbered cs zero = None
numbered cs (suc i) = slice_get cs i

abbrev pub IsUnsatisfiable : List (List Literal) → Type 0
IsUnsatisfiable clauses = (t : Assignment) → All (Satisfies t) clauses → ⊥
