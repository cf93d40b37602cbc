-- The clauses before this place are live.
use Rattle.std.proofs.Common.{◌≡◌, ℕ, ◌+◌, ◌<◌}
use Rattle.std.specs.Prelude.{slice_get}
use Rattle.lrat_live.specs.Listed.{listed_at}
use Rattle.cuts_log.proofs.earlier.are_live.Given as goal

abbrev pub invariant-loop-place : goal.invariant-loop-place
invariant-loop-place l = (k : ℕ) → k < l.place
    → listed_at l.machine.state.live (k + 1) ≡ slice_get l.clauses k
