-- The conflicts until the last deletion and those that are left are all. Each deletion takes one.
use Rattle.std.proofs.Common.{◌≡◌, ◌+◌, ◌≤◌}
use Rattle.cdcl_order.specs.Deletions.{conflicts_until}
use Rattle.cdcl_order.proofs.deletions.deletions_within.Given as goal

abbrev pub invariant-loop-left : goal.invariant-loop-left
invariant-loop-left l = record {
  all : conflicts_until l.deletions + l.left ≡ l.fn.conflicts;
  few : l.deletions + l.left ≤ l.fn.conflicts;
}

abbrev pub decreases-loop-left : goal.decreases-loop-left
decreases-loop-left l = l.left
