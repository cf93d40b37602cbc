use Rattle.std.proofs.Common.{subst, sym}
use Rattle.cuts_solver.specs.Solving.{HasBegunToWrite, HasWritten, SolverState}
use Rattle.cuts_solver.proofs.Written.{has_begun_to_write, has_written}
use Rattle.cuts_solver.proofs.solver.CutsSolver.finish.Goals as goal

pub returns-clause-whole : goal.returns-clause-whole
returns-clause-whole g c = λ whole.
    let s : SolverState = record {
      search = c.self.inside.search;
      input = c.self.inside.input;
      log = c.self.inside.log;
      refuted = c.self.inside.refuted;
      failed = c.self.inside.failed;
    } in
    let e = c.flush_all-is_whole.ensures in
    let l = c.flush_all-is_whole.new.log in
    let works = e.works whole in
    let law = c.texts_are_right.ensures in
    subst (λ x. HasWritten x (g.W.Write.contents c.into_writer.result)) c.self.view_is
    (subst (HasWritten s) (sym c.into_writer.ensures)
    (has_written s l c.self.invariant works.0 e.kept e.book works.1 (e.empty whole) e.same e.lines
    law.end law.texts))

pub returns-clause-part : goal.returns-clause-part
returns-clause-part g c =
    let s : SolverState = record {
      search = c.self.inside.search;
      input = c.self.inside.input;
      log = c.self.inside.log;
      refuted = c.self.inside.refuted;
      failed = c.self.inside.failed;
    } in
    let e = c.flush_all-is_whole.ensures in
    let l = c.flush_all-is_whole.new.log in
    subst (λ x. HasBegunToWrite x (g.W.Write.contents c.into_writer.result)) c.self.view_is
    (subst (HasBegunToWrite s) (sym c.into_writer.ensures)
    (has_begun_to_write s l c.self.invariant e.kept e.book e.same e.lines
    c.texts_are_right.ensures.begun))
