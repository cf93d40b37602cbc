-- The desk came from the first one by its calls alone.
use Rattle.cuts_policy.proofs.rounds.Rounds.begin.Given as goal

abbrev pub invariant-loop-turn : goal.invariant-loop-turn
invariant-loop-turn g l = record {
  follows : (first : g.row.D.Denot) → g.D.Desk.follows first l.fn.desk
      → g.D.Desk.follows first l.desk;
}
