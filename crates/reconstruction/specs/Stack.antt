-- The reconstruction stack: eliminated variables, and the names of the clauses that are left.
use Rattle.std.specs.Prelude.{◌≡◌, ℕ, ◌-◌, ◌<◌, ◌≤◌, Bool, false, List, Some, slice_get}
use Rattle.lrat_log.specs.declared.lines.Name.{Name}
use Rattle.reconstruction.specs.Removals.{Removed}

-- a variable that may stand in the bits
abbrev pub IsRemovedWithin : ℕ → Removed → Type 0
IsRemovedWithin variables r = (0 < r.variable) × (r.variable ≤ variables)

-- in the order of elimination
pub record StackState : Type 0 where
  pub variables : ℕ
  pub removed : List Removed
  pub names : List (ℕ × Name)

-- the variable is one of the clauses before, and not frozen
abbrev pub IsFree : List Bool → ℕ → Type 0
IsFree frozen v = (0 < v) × (slice_get frozen (v - 1) ≡ Some false)
