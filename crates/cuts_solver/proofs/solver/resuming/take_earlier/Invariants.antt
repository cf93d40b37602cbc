-- The additions before this number have come, as each of them can.
use Rattle.std.proofs.Common.{◌≡◌, ℕ, ◌+◌, ◌<◌}
use Rattle.std.specs.Prelude.{IfSome}
use Rattle.lrat_live.specs.Listed.{listed_at}
use Rattle.cdcl_search.specs.Running.{Runs}
use Rattle.cuts_log.specs.Starts.{added_at, lines_before}
use Rattle.cuts_solver.specs.Solving.{CanCome}
use Rattle.cuts_solver.proofs.solver.resuming.take_earlier.Given as goal

abbrev pub invariant-loop-number : goal.invariant-loop-number
invariant-loop-number l = record {
  runs : Runs l.search l.input (lines_before (added_at l.base l.machine.state) l.number);
  additions : l.search.additions ≡ l.number;
  variables : l.search.engine.variables ≡ l.initial.search.engine.variables;
  can : (j : ℕ) → j < l.number → IfSome (listed_at l.machine.state.live (l.base + j + 1))
      (CanCome l.initial.search.engine.variables);
}
