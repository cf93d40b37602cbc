-- The desk came from the first one by its calls alone.
use Rattle.cuts_policy.proofs.linear_bounds.branch_and_bound.Given as goal

abbrev pub invariant-loop-lines : goal.invariant-loop-lines
invariant-loop-lines g l = record {
  follows : (first : g.row.D.Denot) → g.D.Desk.follows first l.fn.desk
      → g.D.Desk.follows first l.desk;
}
