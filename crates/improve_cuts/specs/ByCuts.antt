-- What the search by forms and cuts finds.
use Rattle.std.specs.Prelude.{◌≡◌, ℕ, ◌+◌, ◌≤◌, Bool, true, false, List, [], ◌++◌, length, All}
use Rattle.std.specs.Prelude.{Option, Some, None, Result, Err, IfOk, OnOk, IfSome, IfNone}
use Rattle.cnf.specs.Literal.{Assignment}
use Rattle.cnf.specs.Problem.{IsFeasible, Problem, cost_under}
use Rattle.cnf.specs.declared.limits.TheConstants.{NUMBER_LIMIT}
use Rattle.cdcl_order.specs.Budgets.{BudgetState, left_of}
use Rattle.cuts_log.specs.Logs.{start_of}
use Rattle.cuts_solver.specs.Solving.{SolverState, instance_of}
use Rattle.improve_found.specs.Progress.{Telling, EndsWith, AreFalling, TellsOf}
use Rattle.improve_found.specs.Solutions.{IsSolution, IsCostOfSome}
use Rattle.improve_found.specs.declared.found.ImproveFault.{ImproveFault}
use Rattle.improve_found.specs.declared.found.ImproveFault.TheVariants.{Progress}
use Rattle.improve_found.specs.declared.solutions.Solution.{Solution}
use Rattle.improve_found.specs.declared.found.CutsFound.{CutsFound}

-- a search begins with a solution that costs at most what cuts hold for; or they hold in all
abbrev pub BeginsWith : Problem → (held : ℕ) → Option Solution → Type 0
BeginsWith p held None = held ≡ NUMBER_LIMIT
BeginsWith p held (Some b) =
    IsSolution p (b.bits).items b.cost × (b.cost ≤ held) × (held ≤ NUMBER_LIMIT)

-- the solver is that of the instance, and a search may begin with this, if there is anything
pub record BeginsOn (p : Problem) (first : Option Solution) (s : SolverState) : Type 0 where
  pub instance : instance_of s ≡ p
  pub first_is : BeginsWith p (s.log).cost first
  pub open_end : s.refuted ≡ false
  pub works : s.failed ≡ false

-- it works for the same instance, its log started there, and its writer began with the same bytes
pub record SameOrigin (old new : SolverState) : Type 0 where
  pub instance : instance_of new ≡ instance_of old
  pub start : start_of new.log ≡ start_of old.log
  pub origin : (((new.log).book).seen).origin ≡ (((old.log).book).seen).origin

-- a solution whose cost was told last, and for which cuts hold
pub record IsBestOf (p : Problem) (told : List ℕ) (held : ℕ) (best : Solution) : Type 0 where
  pub solution : IsSolution p (best.bits).items best.cost
  pub told_last : EndsWith told best.cost
  pub cost : held ≡ best.cost

-- no solution was told, and cuts hold for what they held for at the beginning
pub record HasNone (limit : ℕ) (told : List ℕ) (held : ℕ) : Type 0 where
  pub none_told : told ≡ []
  pub cost : held ≡ limit

-- nothing costs less than that for which cuts hold: less than the best solution, if there is one
pub record IsProved (p : Problem) (refuted : Bool) (held : ℕ) : Type 0 where
  pub refuted_is : refuted ≡ true
  pub least : (u : Assignment) → IsFeasible p u → held ≤ cost_under p u

-- What was found is right, where these costs were told. Cuts hold for a cost, and held for the
-- limit at the beginning; the empty clause was added, or not.
pub record IsCutsFound (p : Problem) (limit : ℕ) (told : List ℕ) (found : CutsFound)
    (refuted : Bool) (held : ℕ) (left : BudgetState) : Type 0 where
  pub best : IfSome found.best (IsBestOf p told held)
  pub none : IfNone found.best (HasNone limit told held)
  pub proved : found.is_proved ≡ true → IsProved p refuted held
  -- without a solution, cuts have held in all
  pub unbounded : found.is_proved ≡ true → IfNone found.best (limit ≡ NUMBER_LIMIT)
  pub spent : found.is_proved ≡ false → left_of left ≡ 0

-- what a search by forms and cuts answers, tells and spends
pub record FindsByCuts (p : Problem) (limit : ℕ) (result : Result CutsFound ImproveFault)
    (refuted : Bool) (held : ℕ) (old new : Telling) (budget left : BudgetState) : Type 0 where
  -- the costs fall, and each is that of a solution, also before a fault
  pub tried : List ℕ
  pub told : List ℕ
  pub tells : new.told ≡ old.told ++ told
  pub falling : AreFalling tried
  pub honest : All (IsCostOfSome p) tried
  pub tells_of : TellsOf result tried told new.failed
  pub progress : result ≡ Err Progress → new.failures ≡ old.failures + 1
  pub no_failure : (result ≡ Err Progress → ⊥) → new.failures ≡ old.failures
  pub found : IfOk result (λ f. IsCutsFound p limit told f refuted held left)
  -- the effort
  pub same_limit : left.limit ≡ budget.limit
  pub answers : OnOk result (left.answers ≡ budget.answers + length told)
