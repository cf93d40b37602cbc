use Rattle.std.proofs.Common.{◌≡◌, true, false, refl, sym, ◌∙◌, ap, subst}
use Rattle.cuts_log.specs.Logs.{SameLog}
use Rattle.cuts_solver.specs.Solving.{SolverState}
use Rattle.cuts_solver.proofs.Searching.{searched_fails, searched_on}
use Rattle.cuts_solver.proofs.Working.{same_log}
use Rattle.cuts_solver.proofs.solver.CutsSolver.core.Goals as goal

pub invariant_of-self : goal.invariant_of-self
invariant_of-self g c =
    let old : SolverState = record {
      search = c.self.inside.search;
      input = c.self.inside.input;
      log = c.self.inside.log;
      refuted = c.self.inside.refuted;
      failed = c.self.inside.failed;
    } in
    let new : SolverState = record {
      search = c.find_core.new.search;
      input = c.self.inside.input;
      log = c.find_core.new.sink;
      refuted = c.self.inside.refuted;
      failed = true;
    } in
    let same = c.find_core.ensures.follows old.log (same_log old.log) in
    let e = c.in_err-found.ensures.finds in
    searched_fails old new c.args.budget.now c.find_core.new.budget c.self.invariant same refl
    e.pays (e.err).stays refl refl

pub returns-in_err-found-clause-same : goal.returns-in_err-found-clause-same
returns-in_err-found-clause-same g c =
    subst (λ (s : SolverState). SameLog s.log c.find_core.new.sink) c.self.view_is
    (c.find_core.ensures.follows c.self.inside.log (same_log c.self.inside.log))

pub invariant_of-self-then-has_failed : goal.invariant_of-self-then-has_failed
invariant_of-self-then-has_failed g c =
    let old : SolverState = record {
      search = c.self.inside.search;
      input = c.self.inside.input;
      log = c.self.inside.log;
      refuted = c.self.inside.refuted;
      failed = c.self.inside.failed;
    } in
    let new : SolverState = record {
      search = c.find_core.new.search;
      input = c.self.inside.input;
      log = c.find_core.new.sink;
      refuted = c.self.inside.refuted;
      failed = true;
    } in
    let same = c.find_core.ensures.follows old.log (same_log old.log) in
    let e = c.in_ok-found.ensures.finds in
    searched_fails old new c.args.budget.now c.find_core.new.budget c.self.invariant same refl
    e.pays (e.runs.running.recorded.log).stays refl refl

pub returns-then-has_failed-clause-same : goal.returns-then-has_failed-clause-same
returns-then-has_failed-clause-same g c =
    subst (λ (s : SolverState). SameLog s.log c.find_core.new.sink) c.self.view_is
    (c.find_core.ensures.follows c.self.inside.log (same_log c.self.inside.log))

pub invariant_of-self-2 : goal.invariant_of-self-2
invariant_of-self-2 g c =
    let old : SolverState = record {
      search = c.self.inside.search;
      input = c.self.inside.input;
      log = c.self.inside.log;
      refuted = c.self.inside.refuted;
      failed = c.self.inside.failed;
    } in
    let new : SolverState = record {
      search = c.find_core.new.search;
      input = c.self.inside.input;
      log = c.find_core.new.sink;
      refuted = c.self.inside.refuted;
      failed = false;
    } in
    let same = c.find_core.ensures.follows old.log (same_log old.log) in
    let works : old.failed ≡ false =
    ap (λ (s : SolverState). s.failed) c.self.view_is ∙ c.requires.works in
    let going : old.refuted ≡ false =
    ap (λ (s : SolverState). s.refuted) c.self.view_is ∙ c.requires.going in
    let e = c.in_ok-found.ensures.finds in
    searched_on old new c.args.budget.now c.find_core.new.budget c.self.invariant works same refl
    e.pays (sym c.has_failed.ensures ∙ c.if-has_failed.false) refl going e.runs

pub returns-clause-same : goal.returns-clause-same
returns-clause-same g c =
    subst (λ (s : SolverState). SameLog s.log c.find_core.new.sink) c.self.view_is
    (c.find_core.ensures.follows c.self.inside.log (same_log c.self.inside.log))
