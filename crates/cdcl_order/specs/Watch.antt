-- What is told to who looks on while a search runs.
use Rattle.std.specs.Prelude.{ℕ, Bool, List, ◌++◌, Option, Some, None}
use Rattle.cnf.specs.Problem.{Problem}

-- a solution of a problem, with what it costs; or the end of a search: whether it is proved that
-- nothing is cheaper, or that there is no solution, and the best solution with its cost
pub data Sight : Type 0 where
  Better : (problem : Problem) (cost : ℕ) (bits : List Bool) → Sight
  End : (problem : Problem) (is_proved : Bool) (best : Option (ℕ × List Bool)) → Sight

-- more was seen, after what was seen before; it stays unknown where that is not known
abbrev pub with_seen : List Sight → Option (List Sight) → Option (List Sight)
with_seen more None = None
with_seen more (Some s) = Some (s ++ more)
