-- The trail stays, and each round notes its next literal.
use Rattle.std.proofs.Common.{◌-◌, length}
use Rattle.cdcl_search.proofs.NotedUnits.{IsNoting}
use Rattle.cdcl_search.proofs.noting.note_units.Given as goal

abbrev pub invariant-loop-search : goal.invariant-loop-search
invariant-loop-search g l = record {
  noting : IsNoting l.fn.search l.search l.input (g.S.Sink.lines l.fn.sink)
      (g.S.Sink.lines l.sink);
  follows : (first : g.row.S.Denot) → g.S.Sink.follows first l.fn.sink
      → g.S.Sink.follows first l.sink;
}

abbrev pub decreases-loop-search : goal.decreases-loop-search
decreases-loop-search g l = length (l.search.engine).trail - l.search.noted
