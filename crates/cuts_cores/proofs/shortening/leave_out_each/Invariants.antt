-- The desk came from the first one by its calls alone.
use Rattle.cuts_cores.proofs.shortening.leave_out_each.Given as goal

abbrev pub invariant-loop : goal.invariant-loop
invariant-loop g l = record {
  follows : (first : g.row.D.Denot) → g.D.Desk.follows first l.fn.desk
      → g.D.Desk.follows first l.desk;
}
