-- The desk came from the first one by its calls alone.
use Rattle.cuts_cores.proofs.cores.Cores.charge.Given as goal

abbrev pub invariant-loop-place : goal.invariant-loop-place
invariant-loop-place g l = record {
  follows : (first : g.row.D.Denot) → g.D.Desk.follows first l.fn.desk
      → g.D.Desk.follows first l.desk;
}
