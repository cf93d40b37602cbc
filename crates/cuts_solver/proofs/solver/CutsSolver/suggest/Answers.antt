use Rattle.cuts_solver.specs.Solving.{SolverState}
use Rattle.cuts_solver.proofs.Working.{moves_solver}
use Rattle.cuts_solver.proofs.solver.CutsSolver.suggest.Goals as goal

pub invariant_of-self : goal.invariant_of-self
invariant_of-self g c =
    let s : SolverState = record {
      search = c.self.inside.search;
      input = c.self.inside.input;
      log = c.self.inside.log;
      refuted = c.self.inside.refuted;
      failed = c.self.inside.failed;
    } in
    moves_solver s c.suggest.new.self c.self.invariant c.if-not-self.true c.if-not-self-2.true
    c.suggest.ensures.runs
