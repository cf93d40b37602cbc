-- When a search restarts.
use Rattle.std.specs.Prelude.{ℕ, ◌+◌, ◌-◌, ◌/◌, ◌<◌, ◌≤◌, ◌^◌, min}
use Rattle.cdcl_order.specs.declared.restarts.TheConstants.{ONE, RESTART}

-- The powers of 1.2 in hundredths, each from the one before and rounded down.

abbrev pub first_power : ℕ
first_power = ONE

-- a number beyond 64 bits stays at the greatest that they hold
abbrev pub at_most_64_bits : ℕ → ℕ
at_most_64_bits n = min n (2 ^ 64 - 1)

abbrev pub next_power : ℕ → ℕ
next_power h = at_most_64_bits (h + h / 5)

-- its whole part
abbrev pub term_of : ℕ → ℕ
term_of h = h / ONE

-- The pace of a search.

pub record PaceState : Type 0 where
  -- the power that the sequence stands at
  pub power : ℕ
  -- how many conflicts came since the search last restarted
  pub conflicts : ℕ

abbrev pub first_pace : PaceState
first_pace = record { power = first_power; conflicts = 0 }

-- a count of conflicts
abbrev pub one_more : ℕ → ℕ
one_more n = at_most_64_bits (n + 1)

-- RESTART conflicts for each unit of the term, and at least one
pub record IsRestartDue (p : PaceState) : Type 0 where
  pub some : 0 < p.conflicts
  pub enough : term_of p.power ≤ p.conflicts / RESTART
