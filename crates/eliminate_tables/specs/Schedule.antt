-- Which variables wait to be tried, and how often each literal occurs.
use Rattle.std.specs.Prelude.{ℕ, ◌+◌, ◌-◌, ◌^◌, min, nat_le, nat_lt, Bool, true, false, ◌&&◌, ◌||◌}
use Rattle.std.specs.Prelude.{if◌then◌else◌, List, [], ◌∷◌, ◌++◌, slice_index_or, slice_set}
use Rattle.std.specs.Prelude.{Option, Some, None}
use Rattle.cnf.specs.Literal.{Literal, index_of, negation}
use Rattle.eliminate_tables.specs.declared.worthwhile.TheConstants.{MOST_OF_A_SIGN}

-- the counts by literal; by variable from 1, whether it waits; the variables that wait, in order
pub record ScheduleState : Type 0 where
  pub counts : List ℕ
  pub queued : List Bool
  pub waiting : List ℕ

abbrev pub count_of : ScheduleState → Literal → ℕ
count_of s l = slice_index_or s.counts (index_of l) 0

abbrev pub with_count : ScheduleState → Literal → ℕ → ScheduleState
with_count s l n = record {
  counts = slice_set s.counts (index_of l) n;
  queued = s.queued;
  waiting = s.waiting;
}

-- the variable of the literal waits; one without a place never does
abbrev pub touched : ScheduleState → Literal → ScheduleState
touched s l = if slice_index_or s.queued (l.variable - 1) true then s else record {
  counts = s.counts;
  queued = slice_set s.queued (l.variable - 1) true;
  waiting = s.waiting ++ l.variable ∷ [];
}

-- a clause with the literal was added; no count grows past 32 bits
abbrev pub entered : ScheduleState → Literal → ScheduleState
entered s l = touched (with_count s l (min (count_of s l + 1) (2 ^ 32 - 1))) l

-- a clause with the literal is deleted
abbrev pub left : ScheduleState → Literal → ScheduleState
left s l = touched (with_count s l (count_of s l - 1)) l

abbrev pub first_of : List ℕ → Option ℕ
first_of [] = None
first_of (v ∷ vs) = Some v

-- the first variable waits no more
abbrev pub without_first : ScheduleState → List ℕ → ScheduleState
without_first s [] = s
without_first s (v ∷ vs) = record {
  counts = s.counts;
  queued = slice_set s.queued (v - 1) false;
  waiting = vs;
}

-- some clause has the literal or its negation, and few have each
abbrev pub is_candidate : ScheduleState → Literal → Bool
is_candidate s l =
    nat_le (count_of s l) MOST_OF_A_SIGN && nat_le (count_of s (negation l)) MOST_OF_A_SIGN
    && (nat_lt 0 (count_of s l) || nat_lt 0 (count_of s (negation l)))
