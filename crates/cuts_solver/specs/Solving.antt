-- The state of a solver that works on a log of forms and cuts, and what its calls leave.
use Rattle.std.specs.Prelude.{◌≡◌, ℕ, ◌+◌, ◌-◌, ◌*◌, ◌<◌, ◌≤◌, min, Bool, true, false, List, []}
use Rattle.std.specs.Prelude.{◌++◌, length, Option, Some, Ok, IfSome}
use Rattle.cnf.specs.Literal.{Literal, Assignment}
use Rattle.cnf.specs.Bits.{Extends}
use Rattle.cnf.specs.Problem.{Problem, IsFeasible, cost_under}
use Rattle.std.specs.Io.KnownBytes.{Appends}
use Rattle.cdcl_order.specs.Budgets.{BudgetState, left_of}
use Rattle.cdcl_search.specs.declared.input.Input.{Input}
use Rattle.cdcl_search.specs.declared.search.Search.{Search}
use Rattle.cdcl_search.specs.Cores.{IsShown}
use Rattle.cdcl_search.specs.Running.{IsInput, Runs, is_refuted}
use Rattle.bound.specs.Weighted.{weighted_cnf}
use Rattle.cnf.specs.Instance.{IsInstance}
use Rattle.propagate.specs.Fits.{IsWithin}
use Rattle.lrat_live.specs.Listed.{listed_at}
use Rattle.lrat_log.specs.Axioms.{FollowByRup, IsNewClause, StaysOpenLogOver}
use Rattle.lrat_log.specs.Steps.{given_of}
use Rattle.lrat_cuts.specs.Cuts.{CutsState}
use Rattle.lrat_cuts.specs.Machine.{MachineState}
use Rattle.lrat_cuts.specs.Verdict.{judged_text}
use Rattle.cuts_log.specs.Judging.{HasRightLines, IsEarlier}
use Rattle.cuts_log.specs.Logs.{LogState, SameLog, problem_of, start_of, lines_seen}
use Rattle.cuts_log.specs.Starts.{IsStart, earlier_lines}
use Rattle.cdcl.specs.Guiding.{IsStopped, PaysOpen}
use Rattle.cdcl.specs.Turns.{IsSatisfied}
use Rattle.cdcl.specs.declared.whole.TheConstants.{MOST_ROOM}
use Rattle.cdcl.specs.declared.guided.GuidedEnd.{GuidedEnd}
use Rattle.cdcl.specs.declared.guided.GuidedEnd.TheVariants.{Satisfied as HasModel}
use Rattle.cdcl.specs.declared.guided.GuidedEnd.TheVariants.{Refuted as HasNone}
use Rattle.cdcl.specs.declared.guided.GuidedEnd.TheVariants.{Stopped as HasStopped}
use Rattle.cdcl.specs.declared.guided.GuidedEnd.TheVariants.{Spent as HasSpent}
use Rattle.cuts_solver.specs.declared.solver.resuming.TheConstants.{IDS_A_LINE, IDS_OF_COUNTS}
use Rattle.cuts_solver.specs.declared.solver.SolverEnd.{SolverEnd}
use Rattle.cuts_solver.specs.declared.solver.SolverEnd.TheVariants.{Satisfied, Refuted, Stopped}
use Rattle.cuts_solver.specs.declared.solver.SolverEnd.TheVariants.{Spent}
use Rattle.cuts_solver.specs.declared.solver.Assumed.{Assumed}
use Rattle.cuts_solver.specs.declared.solver.Assumed.TheVariants.{Satisfied as MetSolution}
use Rattle.cuts_solver.specs.declared.solver.Assumed.TheVariants.{Refuted as WasRefuted}
use Rattle.cuts_solver.specs.declared.solver.Assumed.TheVariants.{Core, Stopped as WasStopped}
use Rattle.cuts_solver.specs.declared.solver.Assumed.TheVariants.{Spent as WasSpent}

pub record SolverState : Type 0 where
  pub search : Search
  -- the clauses of the formula
  pub input : Input
  pub log : LogState
  -- the empty clause was added
  pub refuted : Bool
  -- memory was refused, or a write has failed: no call is answered any more
  pub failed : Bool

abbrev pub instance_of : SolverState → Problem
instance_of s = problem_of s.log

-- how many clauses the formula has
abbrev pub base_of : SolverState → ℕ
base_of s = length (weighted_cnf (instance_of s)).clauses

-- no solution costs less than that for which cuts hold
abbrev pub IsLeast : LogState → Type 0
IsLeast l = (u : Assignment) → IsFeasible (problem_of l) u → l.cost ≤ cost_under (problem_of l) u

-- the lines so far are those of an open log, whose additions follow by their hints alone
pub record HasOpenLines (i : Input) (l : LogState) : Type 0 where
  pub stays : StaysOpenLogOver (length (i.frozen).items) i.given (lines_seen l)
  pub follows : FollowByRup i.given (length (weighted_cnf (problem_of l)).clauses) []
      (lines_seen l)

-- while it works the search goes on with them, unless they end in the empty clause
pub record IsWorking (s : SolverState) : Type 0 where
  pub works : ((s.log).book).failed ≡ false
  pub refuted_is : is_refuted (lines_seen s.log) ≡ s.refuted
  pub runs : s.refuted ≡ false → Runs s.search s.input (lines_seen s.log)

-- a search goes on with the formula and what has led a checker there
pub record StartsBehind (p : Problem) (t : CutsState) (s : Search) (i : Input) : Type 0 where
  pub input : IsInput i
  pub given : i.given ≡ given_of (weighted_cnf p).clauses
  pub variables : length (i.frozen).items ≡ (weighted_cnf p).variables
  pub runs : Runs s i (earlier_lines (length (weighted_cnf p).clauses) t)

-- a clause can come to a search with so many variables
pub record CanCome (variables : ℕ) (c : List Literal) : Type 0 where
  pub new : IsNewClause c
  pub within : IsWithin variables c
  pub some : 0 < length c

-- so can each that is live behind a formula with `base` clauses
abbrev pub AllCanCome : (variables base : ℕ) → CutsState → Type 0
AllCanCome variables base t = (j : ℕ) → j < t.last - base
    → IfSome (listed_at t.live (base + j + 1)) (CanCome variables)

-- ids do not leap far ahead of the lines
abbrev pub IsDense : Problem → MachineState → Type 0
IsDense p m = (m.state).last
    ≤ length p.hard + length p.soft + IDS_A_LINE * m.lines + IDS_OF_COUNTS

-- a solver with this room to count in can go on there
pub record CanResume (p : Problem) (m : MachineState) (room : ℕ) : Type 0 where
  pub start : IsStart p m.state
  pub dense : IsDense p m
  pub clauses : AllCanCome ((weighted_cnf p).variables + min room MOST_ROOM)
      (length (weighted_cnf p).clauses) m.state

-- what holds of each solver
pub record IsSolver (s : SolverState) : Type 0 where
  pub instance : IsInstance (instance_of s)
  pub input : IsInput s.input
  pub given : (s.input).given ≡ given_of (weighted_cnf (instance_of s)).clauses
  pub variables : length ((s.input).frozen).items ≡ (weighted_cnf (instance_of s)).variables
  pub least : s.refuted ≡ true → IsLeast s.log
  -- whatever has failed
  pub lines : HasOpenLines s.input s.log
  pub working : s.failed ≡ false → IsWorking s

-- the instance is the same, the log started there, the writer began with the same bytes, and cuts
-- hold for the same cost
abbrev pub SameSolver : SolverState → SolverState → Type 0
SameSolver old new = SameLog old.log new.log

-- while it works, a search over its log has ended so
abbrev pub HasEnded : SolverState → BudgetState → GuidedEnd → Type 0
HasEnded s b HasModel = (s.refuted ≡ false) × IsSatisfied s.search s.input (lines_seen s.log) b
HasEnded s b HasNone = s.refuted ≡ true
HasEnded s b HasStopped = (s.refuted ≡ false) × IsStopped s.search s.input (lines_seen s.log) b
HasEnded s b HasSpent = left_of b ≡ 0

-- the bits begin with a solution
abbrev pub IsSolverEnd : SolverState → BudgetState → SolverEnd → Type 0
IsSolverEnd s b (Satisfied bits) =
    (((instance_of s).variables ≤ length bits.items)
    × ((t : Assignment) → Extends bits.items t → IsFeasible (instance_of s) t))
    × (0 < left_of b)
IsSolverEnd s b Refuted = s.refuted ≡ true
IsSolverEnd s b Stopped = Unit {0}
IsSolverEnd s b Spent = left_of b ≡ 0

-- so does a search under assumptions. Those of a core cannot hold together, as a live clause says
abbrev pub IsAssumed : SolverState → List Literal → BudgetState → Assumed → Type 0
IsAssumed s assumptions b (MetSolution bits) =
    (((instance_of s).variables ≤ length bits.items)
    × ((t : Assignment) → Extends bits.items t → IsFeasible (instance_of s) t))
    × (0 < left_of b)
IsAssumed s assumptions b WasRefuted = s.refuted ≡ true
IsAssumed s assumptions b (Core core) =
    IsShown ((s.search).store).slots assumptions core.items
IsAssumed s assumptions b WasStopped = Unit {0}
IsAssumed s assumptions b WasSpent = left_of b ≡ 0

-- a unit of the budget was paid for each line that was learned or cut; beside that effort was only
-- waived
abbrev pub PaysLines : SolverState → SolverState → BudgetState → BudgetState → Type 0
PaysLines old new had left =
    PaysOpen (new.input).given (lines_seen old.log) (lines_seen new.log) had left

-- the lines of a text are right where cuts have to hold for a cost; it ends in the empty clause, or
-- not
abbrev pub IsRightText : Problem → ℕ → Bool → List ℕ → Type 0
IsRightText p cost ended text =
    (t : CutsState) × (judged_text (Some cost) p text ≡ Ok t) × (t.ended ≡ ended)

-- the writer has all lines, which are right behind each text that leads to where the log starts:
-- that is behind no text, if it starts before the first line
abbrev pub HasWritten : SolverState → Option (List ℕ) → Type 0
HasWritten s now = (text : List ℕ) × Appends (((s.log).book).seen).origin now text
    × ((before : List ℕ) → IsEarlier (problem_of s.log) (start_of s.log) before
    → IsRightText (instance_of s) (s.log).cost s.refuted (before ++ text))

-- or it has what it has of them, of which the lines that a line feed ends are right there
abbrev pub HasBegunToWrite : SolverState → Option (List ℕ) → Type 0
HasBegunToWrite s now = (text : List ℕ) × Appends (((s.log).book).seen).origin now text
    × ((before : List ℕ) → IsEarlier (problem_of s.log) (start_of s.log) before
    → HasRightLines (instance_of s) (s.log).cost before text)
