-- The lines of a log and their text.
use Rattle.std.specs.Prelude.{◌≡◌, ℕ, ◌+◌, ◌-◌, ◌<◌, ◌≤◌, Bool, true, false, List, [], ◌∷◌, ◌++◌}
use Rattle.std.specs.Prelude.{Option, length}
use Rattle.cnf.specs.Problem.{Problem}
use Rattle.text.specs.Writing.{AppendsPart}
use Rattle.lrat_log.specs.declared.log.TheConstants.{LINE_LIMIT}
use Rattle.lrat_log.specs.Log.{LogLine}
use Rattle.lrat_log.specs.Steps.{added_count}
use Rattle.lrat_cuts.specs.Cuts.{CutsState, cuts_start}
use Rattle.cuts_log.specs.Events.{Event, TraceState, lines_in, lines_of, open_text, text_of}
use Rattle.cuts_log.specs.Outs.{OutState, Says, fresh}
use Rattle.cuts_log.specs.Starts.{earlier_lines}

pub record BookState : Type 0 where
  pub seen : TraceState
  pub out : OutState
  -- how many clauses the formula has
  pub base : ℕ
  -- how many lines the search sees, and how many of them add a clause
  pub lines : ℕ
  pub added : ℕ
  -- no line comes any more
  pub failed : Bool

-- how many clauses were added before the first line
abbrev pub before_of : BookState → ℕ
before_of b = ((b.seen).start).last - b.base

-- all lines, with those that stand for what was written before
abbrev pub log_lines : BookState → List LogLine
log_lines b = earlier_lines b.base (b.seen).start ++ lines_of (b.seen).events

-- the text of its own lines
abbrev pub book_text : BookState → List ℕ
book_text b = text_of b.base (before_of b) (b.seen).events

-- the lines that the search sees are those of the first events; and of all that was put out the
-- writer has a beginning of their text and of one line more, without the line feed of that
pub record IsBegun (b : BookState) : Type 0 where
  pub front : List Event
  pub rest : List Event
  pub split : (b.seen).events ≡ front ++ rest
  pub lines : b.lines ≡ length (earlier_lines b.base (b.seen).start ++ lines_of front)
  pub part : AppendsPart (b.seen).origin (b.out).had
      (text_of b.base (before_of b) front
      ++ open_text b.base (before_of b + added_count (lines_of front)) rest)

pub record IsBook (b : BookState) : Type 0 where
  pub small : b.base < LINE_LIMIT
  pub short : b.lines < LINE_LIMIT
  pub said : Says (fresh (b.seen).origin) (book_text b) b.out
  -- after a failed write there may be one line more, which the search does not see
  pub within : b.lines ≤ length (log_lines b)
  pub lines : b.failed ≡ false → b.lines ≡ length (log_lines b)
  pub added : b.failed ≡ false → b.added ≡ added_count (log_lines b)
  pub works : b.failed ≡ false → (b.out).failed ≡ false
  -- whatever has failed
  pub begun : IsBegun b

abbrev pub begun_book : Problem → ℕ → Option (List ℕ) → BookState
begun_book p base origin = record {
  seen = record { problem = p; start = cuts_start p; origin = origin; events = [] };
  out = fresh origin;
  base = base;
  lines = 0;
  added = 0;
  failed = false;
}

-- it goes on there
abbrev pub resumed_book : Problem → CutsState → ℕ → Option (List ℕ) → BookState
resumed_book p s base origin = record {
  seen = record { problem = p; start = s; origin = origin; events = [] };
  out = fresh origin;
  base = base;
  lines = length (earlier_lines base s);
  added = s.last - base;
  failed = false;
}

abbrev pub failed_book : BookState → BookState
failed_book b = record b { failed = true }

abbrev pub seen_next : Event → TraceState → TraceState
seen_next e s = record s { events = s.events ++ e ∷ [] }

-- the line was taken, and its text put
pub record Notes (e : Event) (old new : BookState) : Type 0 where
  pub seen : new.seen ≡ seen_next e old.seen
  pub base : new.base ≡ old.base
  pub lines : new.lines ≡ old.lines + length (lines_in e)
  pub added : new.added ≡ old.added + added_count (lines_in e)
  pub works : new.failed ≡ false

-- a write failed at this line, which the search does not see
pub record FailsAt (e : Event) (old new : BookState) : Type 0 where
  pub seen : new.seen ≡ seen_next e old.seen
  pub base : new.base ≡ old.base
  pub lines : new.lines ≡ old.lines
  pub failed : new.failed ≡ true
  pub write_failed : (new.out).failed ≡ true

-- what was held is written, and nothing else happened; or a write failed
pub record Flushed (old new : BookState) : Type 0 where
  pub held : (new.out).held ≡ []
  pub rest : new ≡ record old { out = new.out }

pub record FailsToFlush (old new : BookState) : Type 0 where
  pub write_failed : (new.out).failed ≡ true
  pub rest : new ≡ record old { out = new.out; failed = true }
