-- The desk came from the first one by its calls alone.
use Rattle.cuts_policy.proofs.bounding.fix_dear.Given as goal

abbrev pub invariant-loop-variable : goal.invariant-loop-variable
invariant-loop-variable g l = record {
  follows : (first : g.row.D.Denot) → g.D.Desk.follows first l.fn.desk
      → g.D.Desk.follows first l.desk;
}
