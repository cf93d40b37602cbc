-- Saved phases: the values that are tried first.
use Rattle.std.specs.Prelude.{ℕ, ◌+◌, ◌-◌, nat_le, false, true, Bool, ◌&&◌, not, List, replicate}
use Rattle.std.specs.Prelude.{◌++◌, length, take, drop}
use Rattle.std.specs.Prelude.{slice_index_or, slice_set, fold, if◌then◌else◌}
use Rattle.cnf.specs.Literal.{Literal}
use Rattle.cdcl_order.specs.Restarts.{at_most_64_bits}
use Rattle.cdcl_order.specs.declared.phases.TheConstants.{WAIT}

pub record PhasesState : Type 0 where
  -- by variable: its last value, and the one in the best solution
  pub last : List Bool
  pub best : List Bool
  -- there was a solution
  pub is_solved : Bool
  -- how many conflicts came since a restart last took the values back, and how many have to
  pub conflicts : ℕ
  pub wait : ℕ

abbrev pub first_phases : ℕ → PhasesState
first_phases variables = record {
  last = replicate variables false;
  best = replicate variables false;
  is_solved = false;
  conflicts = 0;
  wait = WAIT;
}

abbrev pub phase_of : PhasesState → ℕ → Bool
phase_of p v = slice_index_or p.last (v - 1) false

-- the value that makes the literal true takes the place of its variable's
abbrev pub with_value : List Bool → Literal → List Bool
with_value values l = slice_set values (l.variable - 1) (not l.negated)

-- the values that make all of these literals true, and of the other variables those before
abbrev pub values_under : List Bool → List Literal → List Bool
values_under values trail = fold with_value values trail

-- the values with these in front, as many of them as there is room for
abbrev pub with_first : List Bool → List Bool → List Bool
with_first values first = take (length values) first ++ drop (length first) values

-- each variable that has a value among these, by variable from 1, tries it
abbrev pub suggested : PhasesState → List Bool → PhasesState
suggested p values = record p { last = with_first p.last values }

-- each variable tries its value in this solution, whose literals are these
abbrev pub solved : PhasesState → List Literal → PhasesState
solved p trail = record p {
  last = values_under p.last trail;
  best = values_under p.last trail;
  is_solved = true;
}

-- after a restart: where enough conflicts came since that was last so, each variable tries its
-- value in the best solution
abbrev pub restarted : PhasesState → PhasesState
restarted p = if p.is_solved && nat_le p.wait p.conflicts then record p {
  last = p.best;
  conflicts = 0;
  wait = at_most_64_bits (p.wait + WAIT);
} else p
