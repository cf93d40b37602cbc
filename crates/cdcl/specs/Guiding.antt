-- How a search ends, and what its parts promise. Where memory was refused, its log stays open.
use Rattle.std.specs.Prelude.{◌≡◌, ℕ, ◌+◌, ◌<◌, ◌≤◌, List, [], ◌++◌, length, count_by, take, map}
use Rattle.std.specs.Prelude.{Option, Result, IfOk, OnErr, IfSome, IfNone, All, Contains, ◌⊎◌, true}
use Rattle.std.specs.declared.vec.Vec.{Vec}
use Rattle.std.specs.declared.alloc.Global.{Global}
use Rattle.cnf.specs.Literal.{Literal}
use Rattle.cnf.specs.Refute.{IsRefutedByHints}
use Rattle.propagate.specs.Trail.{literals_of}
use Rattle.analyze.specs.Analyzer.{IsFixpoint}
use Rattle.cdcl_order.specs.Budgets.{BudgetState, left_of}
use Rattle.lrat_log.specs.Log.{LogLine, Given, is_axiom}
use Rattle.lrat_log.specs.Steps.{IsBaseOf, IsLearnedOrShort, LearnsNew, nothing_exempt}
use Rattle.lrat_log.specs.Steps.{learned_count}
use Rattle.lrat_log.specs.Axioms.{FollowByRup}
use Rattle.cdcl_search.specs.declared.input.Input.{Input}
use Rattle.cdcl_search.specs.declared.search.Search.{Search}
use Rattle.cdcl_search.specs.Invariant.{zero_of}
use Rattle.cdcl_search.specs.Running.{Runs, StaysOpen, IsEnded}
use Rattle.cdcl_search.specs.Cores.{IsShown}
use Rattle.cdcl.specs.declared.guided.GuidedEnd.{GuidedEnd}
use Rattle.cdcl.specs.declared.guided.GuidedEnd.TheVariants.{Satisfied, Refuted, Stopped, Spent}
use Rattle.cdcl.specs.declared.guided.cutting.Taking.{Taking}
use Rattle.cdcl.specs.declared.guided.cutting.Taking.TheVariants.{Refused, Taken, Ended}
use Rattle.cdcl.specs.Solving.{IsLiveRefuted}
use Rattle.cdcl.specs.Turns.{IsSatisfied, RoundGoesOn}

abbrev pub axiom_count : List LogLine → ℕ
axiom_count ls = count_by (λ l. is_axiom l.kind) ls

-- a clause from outside, or else a learned one, or one of at most one literal
abbrev pub IsGuidedLine : LogLine → Type 0
IsGuidedLine l = (is_axiom l.kind ≡ true) ⊎ IsLearnedOrShort l

-- what was written between two moments: the lines after `before`, of which `spent` were learned or
-- came from outside
pub record WritesOpen (given : Given) (before after : List LogLine) (spent : ℕ) : Type 0 where
  pub more : List LogLine
  pub grows : after ≡ before ++ more
  pub lines : All IsGuidedLine more
  pub spent_is : learned_count more + axiom_count more ≡ spent
  pub new : (base : ℕ) → IsBaseOf given base → LearnsNew nothing_exempt given base before more
  pub follows : (base : ℕ) → IsBaseOf given base → FollowByRup given base before more

-- and that a unit was paid for each of these; beside that effort was only waived
abbrev pub PaysOpen : Given → List LogLine → List LogLine → BudgetState → BudgetState → Type 0
PaysOpen given before after old new = (n : ℕ) × WritesOpen given before after n
    × (new ≡ record old { learned = old.learned + n; waived = new.waived })

-- propagation alone refutes what is live, or the clauses that were given first, or the empty clause
-- was given
abbrev pub IsRefutedAtOnce : Input → List LogLine → Type 0
IsRefutedAtOnce p ls = IsLiveRefuted p.given ls
    ⊎ (IsRefutedByHints (map (λ g. g.1) (take p.first p.given))
    ⊎ Contains (map (λ g. g.1) p.given) [])

-- the guide stopped it where no clause is false or unit, and each literal of level 0 has a clause
-- of its own
pub record IsStopped (s : Search) (p : Input) (ls : List LogLine) (b : BudgetState) : Type 0 where
  pub runs : Runs s p ls
  pub fixpoint : IsFixpoint (s.store).slots (literals_of (s.engine).trail)
  pub noted : length (zero_of (s.engine).trail) ≤ s.noted
  pub left : 0 < left_of b

abbrev pub IsGuidedEnd : Search → Input → List LogLine → BudgetState → GuidedEnd → Type 0
IsGuidedEnd s p ls b Satisfied = IsSatisfied s p ls b
IsGuidedEnd s p ls b Refuted = IsEnded p ls
IsGuidedEnd s p ls b Stopped = IsStopped s p ls b
IsGuidedEnd s p ls b Spent = Runs s p ls × (left_of b ≡ 0)

-- A search ends as it answers, and has paid for each clause that it learned or took.
pub record GuidedEnds {E : Type 0} (result : Result GuidedEnd E) (new : Search) (p : Input)
    (before after : List LogLine) (had left : BudgetState) : Type 0 where
  pub ends : IfOk result (IsGuidedEnd new p after left)
  pub pays : PaysOpen p.given before after had left
  pub err : OnErr result (StaysOpen p after)

-- So does a turn of it, or it leaves a search that goes on.
pub record GuidedTurns {E : Type 0} (result : Result (Option GuidedEnd) E) (old new : Search)
    (p : Input) (before after : List LogLine) (had left : BudgetState) : Type 0 where
  pub ends : IfOk result (λ next. IfSome next (IsGuidedEnd new p after left))
  pub goes : IfOk result (λ next. IfNone next (RoundGoesOn old new p after had left))
  pub pays : PaysOpen p.given before after had left
  pub err : OnErr result (StaysOpen p after)

-- What became of a clause from outside.
abbrev pub IsTaking : Search → Search → Input → List LogLine → List LogLine → BudgetState
    → BudgetState → Taking → Type 0
IsTaking old new p before after had left Refused =
    (new ≡ old) × (after ≡ before) × (left ≡ had)
IsTaking old new p before after had left Taken = RoundGoesOn old new p after had left
IsTaking old new p before after had left Ended = IsEnded p after

pub record TakesCut {E : Type 0} (result : Result Taking E) (old new : Search) (p : Input)
    (before after : List LogLine) (had left : BudgetState) : Type 0 where
  pub takes : IfOk result (IsTaking old new p before after had left)
  pub pays : PaysOpen p.given before after had left
  pub kept : left.waived ≡ had.waived
  pub err : OnErr result (StaysOpen p after)

-- What a search finds where an assumption is false: a core, for which a unit was paid if its clause
-- was learned.
pub record FindsCore {E : Type 0} (result : Result (Option (Vec Literal Global)) E) (new : Search)
    (p : Input) (assumptions : List Literal) (before after : List LogLine)
    (had left : BudgetState) : Type 0 where
  pub runs : IfOk result (λ found. Runs new p after)
  pub shown : IfOk result (λ found. IfSome found
      (λ core. IsShown (new.store).slots assumptions core.items))
  pub pays : PaysOpen p.given before after had left
  pub kept : left.waived ≡ had.waived
  pub err : OnErr result (StaysOpen p after)
