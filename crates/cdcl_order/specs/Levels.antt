-- How many levels meet in a clause, its LBD (literal block distance).
use Rattle.std.specs.Prelude.{ℕ, ◌&&◌, not, nat_lt, ◌==◌, List, [], ◌∷◌, length, fold}
use Rattle.std.specs.Prelude.{if◌then◌else◌}
use Rattle.std.specs.List.{list_any}
use Rattle.cnf.specs.Literal.{Literal}
use Rattle.propagate.specs.Trail.{Assigned, level_of}

-- by level the number of the last count that met it, and the number of the last count
pub record LevelsState : Type 0 where
  pub stamps : List ℕ
  pub count : ℕ

-- a level above 0 comes to the list, where it is not in it
abbrev pub with_level : List ℕ → ℕ → List ℕ
with_level met k = if nat_lt 0 k && not (list_any (λ m. m == k) met) then k ∷ met else met

-- the levels above 0 of the literals, each once
abbrev pub levels_of : List Assigned → List Literal → List ℕ
levels_of trail lits = fold (λ met l. with_level met (level_of trail l)) [] lits

abbrev pub lbd_of : List Assigned → List Literal → ℕ
lbd_of trail lits = length (levels_of trail lits)
