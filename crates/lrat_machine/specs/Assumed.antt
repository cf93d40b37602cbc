-- The literals that are assumed true: as a trail, and as a table of each literal's value.
use Rattle.std.specs.Prelude.{◌≡◌, ℕ, ◌*◌, ◌<◌, ◌≤◌, Bool, false, List, length, slice_index_or}
use Rattle.std.specs.Prelude.{All}
use Rattle.cnf.specs.Literal.{Literal, index_of}
use Rattle.cnf.specs.Clause.{contains_literal, has_repeat, IsClauseWithin}
use Rattle.cnf.specs.declared.limits.TheConstants.{VARIABLE_LIMIT}

-- the literals in the order in which they were assumed, and the greatest variable that may be
pub record AssumedState : Type 0 where
  pub literals : List Literal
  pub variables : ℕ

-- the literals of the trail have the value true, and no others
pub record AreValues (values : List Bool) (variables : ℕ) (trail : List Literal) : Type 0 where
  pub long : length values ≡ 2 * variables
  pub few : variables < VARIABLE_LIMIT
  pub within : IsClauseWithin variables trail
  pub once : has_repeat trail ≡ false
  pub value : (l : Literal) → 0 < l.variable → l.variable ≤ variables
      → slice_index_or values (index_of l) false ≡ contains_literal l trail
