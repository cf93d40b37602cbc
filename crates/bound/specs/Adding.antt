-- What is asked of the cells of a network, and what adding clauses does.
use Rattle.std.specs.Prelude.{◌≡◌, ◌<◌, Bool, true, not, List, ◌++◌, length, ◌==◌}
use Rattle.cnf.specs.Literal.{Literal}
use Rattle.cnf.specs.declared.limits.TheConstants.{VARIABLE_LIMIT}
use Rattle.adder.specs.declared.cells.Cell.{Cell}
use Rattle.adder.specs.declared.profiles.Relaxing.{Relaxing}
use Rattle.adder.specs.declared.profiles.Relaxing.TheVariants.{EachByVariable, UnitsByNegation}
use Rattle.bound.specs.Bound.{kept}

-- its sum and its carry are variables
abbrev pub HasVariables : Cell → Type 0
HasVariables cell =
    (0 < cell.sum) × (cell.sum < VARIABLE_LIMIT)
    × (0 < cell.carry) × (cell.carry < VARIABLE_LIMIT)

-- a soft clause of one literal may be given up by the negation of that
abbrev pub gets_variable : Relaxing → List Literal → Bool
gets_variable EachByVariable c = true
gets_variable UnitsByNegation c = not (length c == 1)

-- the clauses are added, as they are kept
pub record Adds (old new cs : List (List Literal)) : Type 0 where
  pub items : new ≡ old ++ kept cs
