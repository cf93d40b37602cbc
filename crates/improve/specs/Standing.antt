-- What stands between the first solution and the last one.
use Rattle.std.specs.Prelude.{◌≡◌, ℕ, ◌+◌, List, [], ◌∷◌, ◌++◌, length, All, Result, Err}
use Rattle.cnf.specs.Problem.{Problem}
use Rattle.lrat_log.specs.Steps.{learned_count}
use Rattle.adder.specs.declared.profiles.Profile.{Profile}
use Rattle.cdcl_order.specs.Budgets.{BudgetState}
use Rattle.improve_found.specs.Progress.{Telling, AreFalling}
use Rattle.improve_found.specs.Solutions.{IsSolution, IsCostOfSome}
use Rattle.improve.specs.Improving.{Improves}
use Rattle.improve.specs.Bounds.{HasLast}
use Rattle.improve.specs.declared.bounds.Bounds.{Bounds}
use Rattle.improve_found.specs.declared.solutions.Solution.{Solution}
use Rattle.improve_found.specs.declared.found.Found.{Found}
use Rattle.improve_found.specs.declared.found.ImproveFault.{ImproveFault}

-- the best solution so far, whose cost was told last, and the costs told before that
pub record Standing : Type 0 where
  pub best : Solution
  pub earlier : List ℕ

-- no cost was told before that of this solution
abbrev pub starting_with : Solution → Standing
starting_with first = record { best = first; earlier = [] }

-- the costs told, the best one last
abbrev pub costs_of : Standing → List ℕ
costs_of s = s.earlier ++ (s.best).cost ∷ []

-- the best one is a solution, and the costs fall to it, each that of a solution
pub record IsStanding (p : Problem) (s : Standing) : Type 0 where
  pub solution : IsSolution p ((s.best).bits).items (s.best).cost
  pub falling : AreFalling (costs_of s)
  pub honest : All (IsCostOfSome p) s.earlier

-- since the first of these, just these costs were told
pub record HasTold (earlier now : Telling) (costs : List ℕ) : Type 0 where
  pub told : now.told ≡ earlier.told ++ costs
  pub failures : now.failures ≡ earlier.failures

-- since the first of these, the costs were told, `lines` lines learned, and nothing else spent
pub record HasSpent (before left : BudgetState) (costs : List ℕ) (lines : ℕ) : Type 0 where
  pub limit : left.limit ≡ before.limit
  pub answers : left.answers ≡ before.answers + length costs
  pub learned : left.learned ≡ before.learned + lines

-- on the way from one standing to the other, what was told and spent is just what that took; there
-- were `was` learned lines before it, and `now` after it
pub record MovesStanding (p : Problem) (old new : Telling) (had left : BudgetState) (s t : Standing)
    (was now : ℕ) : Type 0 where
  pub standing : IsStanding p t
  pub told : (earlier : Telling) → HasTold earlier old (costs_of s)
      → HasTold earlier new (costs_of t)
  pub failures : new.failures ≡ old.failures
  pub limit : left.limit ≡ had.limit
  pub answers : left.answers + length (costs_of s) ≡ had.answers + length (costs_of t)
  pub learned : left.learned + was ≡ had.learned + now

-- the bounds fall from this standing to the best solution, whose cost is the last of them
pub record Descends (p : Problem) (old new : Telling) (had left : BudgetState) (s : Standing)
    (best : Solution) (b : Bounds) : Type 0 where
  pub earlier : List ℕ
  pub last : HasLast b earlier best.cost
  pub goes_on : MovesStanding p old new had left s (record { best = best; earlier = earlier })
      0 (learned_count (b.solver).sink)

-- a search ends so that came to this standing, and had learned `lines` lines
abbrev pub Ends : Profile → Problem → Result Found ImproveFault → (old new : Telling)
    → (had left : BudgetState) → Standing → ℕ → Type 0
Ends profile p result old new had left s lines =
    (earlier : Telling) (before : BudgetState) → HasTold earlier old (costs_of s)
    → HasSpent before had (costs_of s) lines → Improves profile p result earlier new before left

-- a search fails so that came to this standing
abbrev pub Fails : Problem → ImproveFault → (old new : Telling) → (had left : BudgetState)
    → Standing → Type 0
Fails p e old new had left s =
    (profile : Profile) (earlier : Telling) (before : BudgetState)
    → HasTold earlier old (costs_of s) → had.limit ≡ before.limit
    → Improves profile p (Err e) earlier new before left
