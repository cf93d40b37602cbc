-- The desk came from the first one by its calls alone, and what is left of the budget is known.
use Rattle.std.proofs.Common.{◌≡◌}
use Rattle.cuts_policy.proofs.rounds.Rounds.run.Given as goal

abbrev pub invariant-loop-left : goal.invariant-loop-left
invariant-loop-left g l = record {
  left : l.left ≡ g.D.Desk.left l.desk;
  follows : (first : g.row.D.Denot) → g.D.Desk.follows first l.fn.desk
      → g.D.Desk.follows first l.desk;
}

abbrev pub decreases-loop-left : goal.decreases-loop-left
decreases-loop-left g l = l.left
