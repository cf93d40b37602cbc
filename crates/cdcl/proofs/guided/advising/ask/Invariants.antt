use Rattle.std.proofs.Common.{◌≡◌}
use Rattle.cdcl.proofs.guided.advising.ask.Given as goal

abbrev pub invariant-loop : goal.invariant-loop
invariant-loop g l = record {
  same : l.search ≡ l.fn.search;
  follows : (first : g.row.G.Denot) → g.G.Guide.follows first l.fn.guide
      → g.G.Guide.follows first l.guide;
}
