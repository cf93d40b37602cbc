-- A solver that is given bound after bound.
use Rattle.std.specs.Prelude.{◌≡◌, ℕ, ◌+◌, ◌<◌, ◌≤◌, Bool, false, List, [], ◌∷◌, ◌++◌, length}
use Rattle.cnf.specs.Literal.{Literal}
use Rattle.cnf.specs.Problem.{Problem}
use Rattle.cnf.specs.Instance.{IsInstance}
use Rattle.cnf.specs.declared.limits.TheConstants.{NUMBER_LIMIT}
use Rattle.lrat_log.specs.Log.{LogLine, clauses_in}
use Rattle.lrat_log.specs.Steps.{IsLogOver, IsAcceptedLog, AddsNoEmptyClause, LearnsNew, is_later}
use Rattle.lrat_log.specs.Steps.{learned_count, given_of}
use Rattle.lrat_log.specs.Rebase.{rebased}
use Rattle.adder.specs.declared.profiles.Profile.{Profile}
use Rattle.adder.specs.Network.{adders_as}
use Rattle.bound.specs.Bound.{hard_cnf, bound_as, fixed_clauses, comparator_for}
use Rattle.cdcl.specs.Solving.{SolverState, given_to}
use Rattle.improve.specs.Frozen.{AreFrozen}
use Rattle.improve_found.specs.Progress.{AreFalling}
use Rattle.improve_found.specs.Solutions.{IsSolution}
use Rattle.improve.specs.Improving.{IsNewOver, comparators_for, weaker_before}
use Rattle.improve.specs.declared.bounds.Bounds.{Bounds}
use Rattle.improve.specs.declared.bounds.Next.{Next}
use Rattle.improve.specs.declared.bounds.Next.TheVariants.{Cheaper, Refuted, Spent}
use Rattle.improve.specs.declared.bounds.BoundsEnd.{BoundsEnd}
use Rattle.improve.specs.declared.bounds.BoundsEnd.TheVariants.{Refuted as EndRefuted}
use Rattle.improve.specs.declared.bounds.BoundsEnd.TheVariants.{Spent as EndSpent}
use Rattle.cdcl_order.specs.Budgets.{BudgetState, left_of}

abbrev pub LogSolver : Type 0
LogSolver = SolverState (List LogLine)

-- a solver that works, whose clauses are numbered in the order in which they were given
pub record IsUsable (s : LogSolver) : Type 0 where
  pub works : s.failed ≡ false
  pub numbered : given_to s ≡ given_of (clauses_in (given_to s))
  pub log : IsLogOver (given_to s) s.sink
  -- what it learned is new but for the clauses that were added to the formula
  pub new : (base : ℕ) → length (given_to s) ≤ base
      → LearnsNew (is_later (length s.formula.clauses) base) (given_to s) base [] s.sink

-- these clauses more were given
pub record GivesAll (old : LogSolver) (cs : List (List Literal)) (new : LogSolver) : Type 0 where
  pub usable : IsUsable new
  pub formula : new.formula ≡ old.formula
  pub frozen : new.frozen ≡ old.frozen
  pub clauses : clauses_in (given_to new) ≡ clauses_in (given_to old) ++ cs
  pub learned : learned_count new.sink ≡ learned_count old.sink

abbrev pub Gives : LogSolver → List Literal → LogSolver → Type 0
Gives old c new = GivesAll old (c ∷ []) new

-- the bounds are those before and then a last one
abbrev pub HasLast : Bounds → List ℕ → ℕ → Type 0
HasLast b before c = (b.costs).items ≡ before ++ c ∷ []

-- the solver was given the formula without a bound, and then these bounds
pub record IsOver (p : Problem) (b : Bounds) : Type 0 where
  pub instance : IsInstance p
  pub usable : IsUsable b.solver
  pub formula : (b.solver).formula ≡ bound_as b.profile p NUMBER_LIMIT
  pub clauses : clauses_in (given_to b.solver)
      ≡ fixed_clauses b.profile p ++ comparators_for b.profile p (b.costs).items
  pub network : b.network ≡ adders_as b.profile p
  pub frozen : AreFrozen (b.solver).frozen (adders_as b.profile p).outputs
  pub fixed : b.fixed ≡ length (fixed_clauses b.profile p)
  pub last : (before : List ℕ) (c : ℕ) → HasLast b before c
      → b.last ≡ length (comparator_for b.profile p c)

-- a new solver of the formula without a bound
pub record IsOverFixed (profile : Profile) (p : Problem) (s : LogSolver) : Type 0 where
  pub instance : IsInstance p
  pub works : s.failed ≡ false
  pub formula : s.formula ≡ bound_as profile p NUMBER_LIMIT
  pub none_added : s.added ≡ []
  pub log : IsLogOver (given_to s) s.sink
  pub learned : learned_count s.sink ≡ 0
  pub frozen : AreFrozen s.frozen (adders_as profile p).outputs

-- no bound was given yet, and nothing learned
pub record HasNoBound (b : Bounds) : Type 0 where
  pub none : (b.costs).items ≡ []
  pub learned : learned_count (b.solver).sink ≡ 0

-- a solver of the hard clauses
pub record IsOverHard (p : Problem) (s : LogSolver) : Type 0 where
  pub instance : IsInstance p
  pub works : s.failed ≡ false
  pub formula : s.formula ≡ hard_cnf p
  pub given : given_to s ≡ given_of (hard_cnf p).clauses
  pub learned : learned_count s.sink ≡ 0

-- the log over the formula for the last bound, where the bounds fall
pub record BoundLog (p : Problem) (b : Bounds) (log : List LogLine) : Type 0 where
  pub lines : (before : List ℕ) (c : ℕ) → HasLast b before c
      → log ≡ rebased (length (fixed_clauses b.profile p)) (weaker_before b.profile p before c)
      (b.solver).sink
  pub is_log : (before : List ℕ) (c : ℕ) → HasLast b before c → AreFalling (b.costs).items
      → IsLogOver (given_of (bound_as b.profile p c).clauses) log
  pub accepted : (before : List ℕ) (c : ℕ) → HasLast b before c → AreFalling (b.costs).items
      → IsAcceptedLog (given_to b.solver) (b.solver).sink
      → IsAcceptedLog (given_of (bound_as b.profile p c).clauses) log
  pub open_end : (before : List ℕ) (c : ℕ) → HasLast b before c → AreFalling (b.costs).items
      → AddsNoEmptyClause (b.solver).sink → AddsNoEmptyClause log
  -- what it learned is new but for the clauses of the last bound and the lines for those of the
  -- bounds before
  pub new : (before : List ℕ) (c : ℕ) → HasLast b before c → AreFalling (b.costs).items
      → IsNewOver b.profile p c (length (comparators_for b.profile p before)) log
  pub learned : learned_count log ≡ learned_count (b.solver).sink

-- What was answered is so, where the budget went from old to new.

pub record IsNextCheaper (p : Problem) (b : Bounds) (old new : BudgetState) (bits : List Bool)
    (cost : ℕ) : Type 0 where
  pub solution : IsSolution p bits cost
  pub below : (before : List ℕ) (c : ℕ) → HasLast b before c → cost < c
  pub answers : new.answers ≡ old.answers + 1

pub record IsNextRefuted (b : Bounds) (old new : BudgetState) : Type 0 where
  pub accepted : IsAcceptedLog (given_to b.solver) (b.solver).sink
  pub answers : new.answers ≡ old.answers

pub record IsNextSpent (b : Bounds) (old new : BudgetState) : Type 0 where
  pub open_end : AddsNoEmptyClause (b.solver).sink
  pub above_zero : (before : List ℕ) (c : ℕ) → HasLast b before c → 0 < c
  pub none_left : left_of new ≡ 0
  pub answers : new.answers ≡ old.answers

abbrev pub IsNext : Problem → Bounds → BudgetState → BudgetState → Next → Type 0
IsNext p b old new (Cheaper s) = IsNextCheaper p b old new (s.bits).items s.cost
IsNext p b old new Refuted = IsNextRefuted b old new
IsNext p b old new Spent = IsNextSpent b old new

-- the budget is spent, and the last bound, which is this cost, is above 0
pub record IsEndSpent (b : Bounds) (left : BudgetState) (last : ℕ) : Type 0 where
  pub open_end : AddsNoEmptyClause (b.solver).sink
  pub above_zero : 0 < last
  pub none_left : left_of left ≡ 0

-- the search below the last bound, which is this cost, ends so
abbrev pub IsBoundsEnd : Bounds → BudgetState → ℕ → BoundsEnd → Type 0
IsBoundsEnd b left last EndRefuted = IsAcceptedLog (given_to b.solver) (b.solver).sink
IsBoundsEnd b left last EndSpent = IsEndSpent b left last
