-- How a search stands that has come from a beginning.
use Rattle.std.specs.Prelude.{◌≡◌, ℕ, ◌+◌, ◌<◌, ◌≤◌, List, [], ◌∷◌, ◌++◌, length, map, min, All}
use Rattle.std.specs.Prelude.{true, false, Bool, Option, Some, None, Result, Ok, Err}
use Rattle.std.specs.Coded.{Coded, Coded-set, codes}
use Rattle.cnf.specs.Problem.{Problem}
use Rattle.cnf.specs.declared.limits.TheConstants.{NUMBER_LIMIT}
use Rattle.cdcl_order.specs.Budgets.{BudgetState, WaivesAs, left_of}
use Rattle.cdcl_order.specs.Watch.{Sight, Better, with_seen}
use Rattle.cuts_cores.specs.declared.desk.DeskFault.{DeskFault}
use Rattle.cuts_cores.specs.declared.desk.DeskFault.TheVariants.{Memory, Progress}
use Rattle.cuts_solver.specs.Solving.{SolverState}
use Rattle.improve_found.specs.Progress.{Telling, with_told, with_failed, AreFalling}
use Rattle.improve_found.specs.Solutions.{IsSolution}
use Rattle.improve_found.specs.declared.found.ImproveFault.{ImproveFault}
use Rattle.improve_found.specs.declared.found.ImproveFault.TheVariants.{Memory as NoMemory}
use Rattle.improve_found.specs.declared.found.ImproveFault.TheVariants.{Progress as CannotTell}
use Rattle.improve_found.specs.Watch.{better_of, costs_shown}
use Rattle.improve_found.specs.declared.solutions.Solution.{Solution}
use Rattle.improve_cuts.specs.ByCuts.{SameOrigin, IsProved}
use Rattle.improve_found.specs.declared.found.CutsFound.{CutsFound}

-- what a session works on, as it stands
pub record SessionState : Type 0 where
  pub solver : SolverState
  pub budget : BudgetState
  pub telling : Telling
  -- what the watch was shown, and what it has waived
  pub seen : Option (List Sight)
  pub waived : ℕ
  pub best : Option Solution
  -- why it answers nothing any more
  pub fault : Option DeskFault

-- what the best solution costs
abbrev pub cost_of : Option Solution → ℕ
cost_of None = NUMBER_LIMIT
cost_of (Some b) = b.cost

-- the best solution is the last of these
abbrev pub IsLastOf : List (ℕ × List Bool) → Option Solution → Type 0
IsLastOf solutions None = solutions ≡ []
IsLastOf solutions (Some b) =
    (before : List (ℕ × List Bool)) × (solutions ≡ before ++ (b.cost, (b.bits).items) ∷ [])

-- these costs were told too
abbrev pub with_all_told : List ℕ → Telling → Telling
with_all_told costs t = record t { told = t.told ++ costs }

-- it is the same search, whose watch has waived what was waived; cuts hold for no greater cost
pub record IsSameSearch (old new : SessionState) : Type 0 where
  pub origin : SameOrigin old.solver new.solver
  pub held : ((new.solver).log).cost ≤ ((old.solver).log).cost
  pub limit : (new.budget).limit ≡ (old.budget).limit
  pub waives : WaivesAs old.budget new.budget old.waived new.waived

-- these solutions were shown, told and paid for, and the last is the best one, for which cuts hold
pub record HasKept (p : Problem) (start now : SessionState) (solutions : List (ℕ × List Bool))
    : Type 0 where
  pub telling : now.telling ≡ with_all_told (costs_shown solutions) start.telling
  pub seen : now.seen ≡ with_seen (map (better_of p) solutions) start.seen
  pub answers : (now.budget).answers ≡ (start.budget).answers + length solutions
  pub best : IsLastOf solutions now.best
  pub cuts : ((now.solver).log).cost ≡ cost_of now.best

-- these solutions were shown and told, and a cheaper one was shown that could not be told
pub record HasFailedToTell (p : Problem) (start now : SessionState)
    (solutions : List (ℕ × List Bool)) : Type 0 where
  pub last : ℕ × List Bool
  pub solution : IsSolution p last.1 last.0
  pub falling : AreFalling (costs_shown (solutions ++ last ∷ []))
  pub telling : now.telling
      ≡ with_failed last.0 (with_all_told (costs_shown solutions) start.telling)
  pub seen : now.seen ≡ with_seen (map (better_of p) (solutions ++ last ∷ [])) start.seen

-- what became of solutions, by the fault
abbrev pub HasMet : Problem → (start now : SessionState) → List (ℕ × List Bool) → Option DeskFault
    → Type 0
HasMet p start now solutions None = HasKept p start now solutions
HasMet p start now solutions (Some Memory) = HasKept p start now solutions
HasMet p start now solutions (Some Progress) = HasFailedToTell p start now solutions

-- a session that began so stands so now
pub record HasCome (p : Problem) (start now : SessionState) : Type 0 where
  pub solutions : List (ℕ × List Bool)
  pub each : All (λ s. IsSolution p s.1 s.0) solutions
  pub falling : AreFalling (costs_shown solutions)
  pub met : HasMet p start now solutions now.fault
  pub search : IsSameSearch start now

-- one that had come to the first state has come to the second
abbrev pub LeadsTo : Problem → (old new : SessionState) → Type 0
LeadsTo p old new = (start : SessionState) → HasCome p start old → HasCome p start new

-- No solution was met: the solver has worked, or effort was spent.
pub record WorksOn (old new : SessionState) : Type 0 where
  pub telling : new.telling ≡ old.telling
  pub seen : new.seen ≡ old.seen
  pub answers : (new.budget).answers ≡ (old.budget).answers
  pub best : new.best ≡ old.best
  pub cuts : ((new.solver).log).cost ≡ ((old.solver).log).cost
  pub fault : new.fault ≡ old.fault
  pub search : IsSameSearch old new

-- A cheaper solution was met, which was shown, and
pub record Meets (p : Problem) (old new : SessionState) (met : Solution) : Type 0 where
  pub solution : IsSolution p (met.bits).items met.cost
  pub cheaper : met.cost < cost_of old.best
  pub worked : old.fault ≡ None
  pub seen : new.seen ≡ with_seen (Better p met.cost (met.bits).items ∷ []) old.seen
  pub search : IsSameSearch old new

-- told and paid for, and it is the best one now,
pub record Keeps (p : Problem) (old new : SessionState) (met : Solution) : Type 0 where
  pub meets : Meets p old new met
  pub telling : new.telling ≡ with_told met.cost old.telling
  pub answers : (new.budget).answers ≡ (old.budget).answers + 1
  pub best : new.best ≡ Some met
  pub cuts : ((new.solver).log).cost ≡ min met.cost ((old.solver).log).cost
  pub fault : new.fault ≡ None

-- or could not be told.
pub record FailsToTell (p : Problem) (old new : SessionState) (met : Solution) : Type 0 where
  pub meets : Meets p old new met
  pub telling : new.telling ≡ with_failed met.cost old.telling
  pub fault : new.fault ≡ Some Progress

-- what a search fails with, by why the session answers nothing any more
abbrev pub IsFaultOf : ImproveFault → Option DeskFault → Type 0
IsFaultOf CannotTell fault = fault ≡ Some Progress
IsFaultOf NoMemory fault = fault ≡ Some Progress → ⊥

-- a search ends without a fault, by whether it is proved that nothing is cheaper
pub record EndsWithout (p : Problem) (is_proved : Bool) (now : SessionState) : Type 0 where
  pub fault : now.fault ≡ None
  pub proved : is_proved ≡ true → IsProved p (now.solver).refuted ((now.solver).log).cost
  pub spent : is_proved ≡ false → left_of now.budget ≡ 0

-- what is found, with the best solution
abbrev pub found_by : Result Bool ImproveFault → Option Solution → Result CutsFound ImproveFault
found_by (Ok is_proved) best = Ok (record { best = best; is_proved = is_proved })
found_by (Err e) best = Err e

-- two proofs that two problems are the same are the same
pub same_prop : (p q : Problem) → IsProp (p ≡ q)
same_prop p q = let c : Coded Problem = Prim.hlevel codes in Coded-set c p q
