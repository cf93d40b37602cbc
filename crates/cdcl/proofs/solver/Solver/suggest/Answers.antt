-- What it runs over stays.
use Rattle.cdcl.proofs.solver.Solver.suggest.Goals as goal

pub invariant_of-self : goal.invariant_of-self
invariant_of-self g c = record {
  input = c.self.invariant.input;
  lines = c.self.invariant.lines;
  running = λ works goes.
      c.suggest.ensures.runs c.self.inside.input (g.S.Sink.lines c.self.inside.tally.sink)
      (c.self.invariant.running works goes);
}
