-- Of its policy a solver knows what stays.
use Rattle.std.proofs.Common.{ap}
use Rattle.cdcl_search.proofs.Laws.{runs_chosen}
use Rattle.cdcl.proofs.solver.Solver.weigh.Goals as goal

pub invariant_of-self : goal.invariant_of-self
invariant_of-self g c = record {
  input = c.self.invariant.input;
  lines = c.self.invariant.lines;
  running = λ works goes.
      runs_chosen c.self.inside.search c.weigh.new.self c.self.inside.input
      (g.S.Sink.lines c.self.inside.tally.sink) (ap (λ x. x.variables) c.weigh.ensures.same_view)
      (c.self.invariant.running works goes);
}
