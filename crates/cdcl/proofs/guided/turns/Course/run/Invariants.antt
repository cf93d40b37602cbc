use Rattle.std.proofs.Common.{◌≡◌}
use Rattle.propagate.specs.Trail.{depth_of}
use Rattle.cdcl_order.specs.Budgets.{WaivesAs}
use Rattle.cdcl_search.specs.Running.{Runs}
use Rattle.cdcl.specs.Courses.{HoldsSame}
use Rattle.cdcl.specs.Turns.{rounds_left}
use Rattle.cdcl.specs.Guiding.{PaysOpen, IsRefutedAtOnce}
use Rattle.cdcl.proofs.guided.turns.Course.run.Given as goal

abbrev pub invariant-rounds : goal.invariant-rounds
invariant-rounds g l = record {
  same : HoldsSame l.fn.self l.self;
  runs : Runs l.self.search.now l.self.input.now (g.S.Sink.lines l.self.sink.now);
  at_once : IsRefutedAtOnce l.fn.self.input.now (g.S.Sink.lines l.fn.self.sink.now)
      → (depth_of (l.self.search.now.engine).trail ≡ 0)
      × (g.S.Sink.lines l.self.sink.now ≡ g.S.Sink.lines l.fn.self.sink.now);
  pays : PaysOpen l.fn.self.input.now.given (g.S.Sink.lines l.fn.self.sink.now)
      (g.S.Sink.lines l.self.sink.now) l.fn.self.budget.now l.self.budget.now;
  follows : (first : g.row.G.Denot) → g.G.Guide.follows first l.fn.guide
      → g.G.Guide.follows first l.guide;
  sink_follows : (first : g.row.S.Denot) → g.S.Sink.follows first l.fn.self.sink.now
      → g.S.Sink.follows first l.self.sink.now;
  same_seen : g.W.SearchWatch.seen l.watch ≡ g.W.SearchWatch.seen l.fn.watch;
  waives : WaivesAs l.fn.self.budget.now l.self.budget.now (g.W.SearchWatch.waived l.fn.watch)
      (g.W.SearchWatch.waived l.watch);
}

abbrev pub decreases-rounds : goal.decreases-rounds
decreases-rounds g l = rounds_left l.self.search.now l.self.budget.now
