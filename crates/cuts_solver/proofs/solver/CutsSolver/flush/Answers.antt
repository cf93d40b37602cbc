use Rattle.std.proofs.Common.{subst}
use Rattle.cuts_solver.specs.Solving.{HasBegunToWrite, HasWritten, SolverState}
use Rattle.cuts_solver.proofs.Working.{flushed_solver}
use Rattle.cuts_solver.proofs.Written.{has_begun_to_write, has_written}
use Rattle.cuts_solver.proofs.solver.CutsSolver.flush.Goals as goal

pub invariant_of-self : goal.invariant_of-self
invariant_of-self g c =
    let s : SolverState = record {
      search = c.self.inside.search;
      input = c.self.inside.input;
      log = c.self.inside.log;
      refuted = c.self.inside.refuted;
      failed = c.self.inside.failed;
    } in
    let e = c.flush_all-is_whole.ensures in
    flushed_solver s c.flush_all-is_whole.new.log c.flush_all-is_whole.result c.self.invariant
    e.same e.lines e.works

pub returns-then-not-is_whole-clause-part : goal.returns-then-not-is_whole-clause-part
returns-then-not-is_whole-clause-part g c =
    let s : SolverState = record {
      search = c.self.inside.search;
      input = c.self.inside.input;
      log = c.self.inside.log;
      refuted = c.self.inside.refuted;
      failed = c.self.inside.failed;
    } in
    let e = c.flush_all-is_whole.ensures in
    let l = c.flush_all-is_whole.new.log in
    subst (λ x. HasBegunToWrite x l.book.out.had) c.self.view_is
    (has_begun_to_write s l c.self.invariant e.kept e.book e.same e.lines
    c.texts_are_right.ensures.begun)

pub invariant_of-self-2 : goal.invariant_of-self-2
invariant_of-self-2 g c =
    let s : SolverState = record {
      search = c.self.inside.search;
      input = c.self.inside.input;
      log = c.self.inside.log;
      refuted = c.self.inside.refuted;
      failed = c.self.inside.failed;
    } in
    let e = c.flush_all-is_whole.ensures in
    flushed_solver s c.flush_all-is_whole.new.log c.flush_all-is_whole.result c.self.invariant
    e.same e.lines e.works

pub returns-clause-whole : goal.returns-clause-whole
returns-clause-whole g c =
    let s : SolverState = record {
      search = c.self.inside.search;
      input = c.self.inside.input;
      log = c.self.inside.log;
      refuted = c.self.inside.refuted;
      failed = c.self.inside.failed;
    } in
    let e = c.flush_all-is_whole.ensures in
    let l = c.flush_all-is_whole.new.log in
    let works = e.works c.if-not-is_whole.false in
    let law = c.texts_are_right.ensures in
    subst (λ x. HasWritten x l.book.out.had) c.self.view_is
    (has_written s l c.self.invariant works.0 e.kept e.book works.1
    (e.empty c.if-not-is_whole.false) e.same e.lines law.end law.texts)

pub returns-clause-part : goal.returns-clause-part
returns-clause-part g c =
    let s : SolverState = record {
      search = c.self.inside.search;
      input = c.self.inside.input;
      log = c.self.inside.log;
      refuted = c.self.inside.refuted;
      failed = c.self.inside.failed;
    } in
    let e = c.flush_all-is_whole.ensures in
    let l = c.flush_all-is_whole.new.log in
    subst (λ x. HasBegunToWrite x l.book.out.had) c.self.view_is
    (has_begun_to_write s l c.self.invariant e.kept e.book e.same e.lines
    c.texts_are_right.ensures.begun)
