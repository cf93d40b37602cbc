-- A certificate that an earlier run has left.
use Rattle.std.specs.Prelude.{ℕ, ◌+◌, ◌*◌, ◌^◌, ◌<◌, ◌≤◌, min, Bool, true, List, Option}
use Rattle.cnf.specs.Problem.{Problem}
use Rattle.lrat_check.specs.Checks.{CostsAtLeast}
use Rattle.cuts_solver.specs.Solving.{IsRightText}
use Rattle.improve_found.specs.Solutions.{IsSolution}
use Rattle.improve_found.specs.declared.solutions.Solution.{Solution}
use Rattle.improve_cuts.specs.ByCuts.{BeginsWith}

-- a text is right for each cost up to the limit, and ends in the empty clause
abbrev pub IsRightUpTo : Problem → (limit : ℕ) → List ℕ → Type 0
IsRightUpTo p limit text = (cost : ℕ) → cost ≤ limit → IsRightText p cost true text

-- the bits are no solution that costs at most this
abbrev pub IsDearer : Problem → (limit : ℕ) → List Bool → Type 0
IsDearer p limit bits = (cost : ℕ) → IsSolution p bits cost → limit < cost

-- how many variables there are to count with, for so many soft clauses
abbrev pub room_for : ℕ → ℕ
room_for softs = min (min (8 * softs + 2000) (2 * softs + 10000)) (2 ^ 20)

-- nothing costs less than the limit, where a search may begin with this
pub record EndsAt (p : Problem) (limit : ℕ) (first : Option Solution) : Type 0 where
  pub begins : BeginsWith p limit first
  pub least : CostsAtLeast p limit
