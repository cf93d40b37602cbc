-- A log of forms and cuts.
use Rattle.std.specs.Prelude.{◌≡◌, ℕ, ◌≤◌, false, List, ◌++◌, length, take, Option}
use Rattle.cnf.specs.Problem.{Problem}
use Rattle.cnf.specs.declared.limits.TheConstants.{NUMBER_LIMIT}
use Rattle.bound.specs.Weighted.{weighted_cnf}
use Rattle.lrat_log.specs.Log.{LogLine}
use Rattle.lrat_cuts.specs.Cuts.{CutsState}
use Rattle.cuts_log.specs.declared.standing.Standing.{Standing}
use Rattle.cuts_log.specs.Books.{BookState, begun_book, log_lines, resumed_book}
use Rattle.cuts_log.specs.Events.{Event}
use Rattle.cuts_log.specs.Given.{FormulaState, all_live}
use Rattle.cuts_log.specs.Stands.{TakesAll, stand_at, stand_of}
use Rattle.cuts_log.specs.Starts.{IsStart}

pub record LogState : Type 0 where
  pub book : BookState
  -- what the lines leave, unless it has failed
  pub standing : Standing
  -- each cut holds in all solutions that cost less
  pub cost : ℕ

abbrev pub events_of : LogState → List Event
events_of l = ((l.book).seen).events

abbrev pub problem_of : LogState → Problem
problem_of l = ((l.book).seen).problem

-- what the checker has before the first line
abbrev pub start_of : LogState → CutsState
start_of l = ((l.book).seen).start

-- all lines, with those that stand for what was written before
abbrev pub all_lines : LogState → List LogLine
all_lines l = log_lines l.book

-- the lines that the search sees
abbrev pub lines_seen : LogState → List LogLine
lines_seen l = take (l.book).lines (all_lines l)

-- each line is right for cuts up to the cost, and the standing is what they leave
pub record IsKept (l : LogState) : Type 0 where
  pub base : (l.book).base ≡ length (weighted_cnf (problem_of l)).clauses
  pub start : IsStart (problem_of l) (start_of l)
  pub cost : l.cost ≤ NUMBER_LIMIT
  -- and so is each cut that was written before
  pub worth : l.cost ≤ (start_of l).worth
  pub left : Standing
  pub taken : TakesAll l.cost (stand_at (problem_of l) (start_of l)) (events_of l) left
  pub standing : (l.book).failed ≡ false → l.standing ≡ left

-- over the instance, for a writer that has this, no line was taken yet
pub record HasBegun (p : Problem) (origin : Option (List ℕ)) (l : LogState) : Type 0 where
  pub book : l.book ≡ begun_book p (length (weighted_cnf p).clauses) origin
  pub standing : l.standing ≡ stand_of p
  pub cost : l.cost ≡ NUMBER_LIMIT

-- over the instance, for a writer that has this, a log may go on there with this book and the whole
-- formula
pub record MayResume (p : Problem) (s : CutsState) (origin : Option (List ℕ)) (b : BookState)
    (f : FormulaState) : Type 0 where
  pub book : b ≡ resumed_book p s (length (weighted_cnf p).clauses) origin
  pub formula : f ≡ all_live (weighted_cnf p).clauses
  pub start : IsStart p s

-- over the instance, for a writer that has this, it goes on there, for the cost that the cuts
-- before hold for
pub record HasResumed (p : Problem) (s : CutsState) (origin : Option (List ℕ)) (l : LogState)
    : Type 0 where
  pub book : l.book ≡ resumed_book p s (length (weighted_cnf p).clauses) origin
  pub standing : l.standing ≡ stand_at p s
  pub cost : l.cost ≡ s.worth

-- it is about the same instance, started there and with the same bytes, and cuts hold for the same
-- cost
pub record SameLog (old new : LogState) : Type 0 where
  pub problem : problem_of new ≡ problem_of old
  pub start : start_of new ≡ start_of old
  pub origin : ((new.book).seen).origin ≡ ((old.book).seen).origin
  pub cost : new.cost ≡ old.cost

-- these lines come last, and the log goes on
pub record Brings (more : List LogLine) (old new : LogState) : Type 0 where
  pub lines : lines_seen new ≡ lines_seen old ++ more
  pub works : (new.book).failed ≡ false
