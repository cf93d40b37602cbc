-- The clauses that are live under the ids so far.
use Rattle.std.proofs.Common.{◌≡◌, ◌-◌, ◌≤◌}
use Rattle.lrat_live.specs.Listed.{listed_at}
use Rattle.explain_certificate.specs.Holdings.{live_up_to}
use Rattle.explain_certificate.proofs.holdings.count_live.Given as goal

abbrev pub invariant-loop-id : goal.invariant-loop-id
invariant-loop-id l = record {
  count : l.count ≡ live_up_to (listed_at (l.machine.state).live) l.id;
  few : l.count ≤ l.id;
  within : l.id ≤ l.last;
}

abbrev pub decreases-loop-id : goal.decreases-loop-id
decreases-loop-id l = l.last - l.id
