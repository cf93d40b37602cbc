use Rattle.std.proofs.Common.{◌∙◌, subst, sym}
use Rattle.cnf.specs.Bits.{Extends}
use Rattle.cnf.specs.Literal.{Assignment}
use Rattle.cnf.specs.Problem.{IsFeasible}
use Rattle.cuts_log.specs.Logs.{lines_seen}
use Rattle.cdcl.specs.Turns.{IsSatisfied}
use Rattle.cuts_solver.specs.Solving.{SolverState, instance_of}
use Rattle.cuts_solver.proofs.Solutions.{begins_with}
use Rattle.cuts_solver.proofs.solver.CutsSolver.solution.Goals as goal

pub bits-requires-clause-fixpoint : goal.bits-requires-clause-fixpoint
bits-requires-clause-fixpoint g c =
    let w = c.requires.satisfied in
    let met =
    subst (λ (s : SolverState). IsSatisfied s.search s.input (lines_seen s.log) w.0)
    (sym c.self.view_is) w.1 in met.fixpoint

pub returns-clause-feasible : goal.returns-clause-feasible
returns-clause-feasible g c =
    let s : SolverState = record {
      search = c.self.inside.search;
      input = c.self.inside.input;
      log = c.self.inside.log;
      refuted = c.self.inside.refuted;
      failed = c.self.inside.failed;
    } in
    let e = c.in_ok-bits.ensures in
    let bits = c.in_ok-bits.bits.items in
    let begins =
    begins_with (instance_of s) (s.input).given bits c.self.invariant.given
    (e.long ∙ c.self.invariant.variables) e.satisfied in
    subst (λ (x : SolverState). (t : Assignment) → Extends bits t → IsFeasible (instance_of x) t)
    c.self.view_is begins.1
