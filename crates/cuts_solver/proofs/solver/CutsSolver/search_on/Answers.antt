use Rattle.std.proofs.Common.{◌≡◌, true, false, refl, rules, sym, ◌∙◌, ap, subst}
use Rattle.std.proofs.lemmas.Result.{IfOk-from_err}
use Rattle.cuts_log.specs.Logs.{SameLog, lines_seen}
use Rattle.cdcl.specs.Guiding.{IsGuidedEnd}
use Rattle.cuts_solver.specs.Solving.{SolverState}
use Rattle.cuts_solver.proofs.Searching.{ended_stays, ends_solver, runs_on, searched_fails}
use Rattle.cuts_solver.proofs.Searching.{searched_on}
use Rattle.cuts_solver.proofs.Working.{same_log}
use Rattle.cuts_solver.proofs.solver.CutsSolver.search_on.Goals as goal

pub invariant_of-self : goal.invariant_of-self
invariant_of-self g c =
    let old : SolverState = record {
      search = c.self.inside.search;
      input = c.self.inside.input;
      log = c.self.inside.log;
      refuted = c.self.inside.refuted;
      failed = c.self.inside.failed;
    } in
    let new : SolverState = record {
      search = c.run.new.self.search.now;
      input = c.self.inside.input;
      log = c.run.new.self.sink.now;
      refuted = c.self.inside.refuted;
      failed = true;
    } in
    let same = c.run.ensures.sink_follows old.log (same_log old.log) in
    let e = c.in_err-end.ensures.search in
    searched_fails old new c.args.budget.now c.run.new.self.budget.now c.self.invariant same refl
    e.pays (e.err).stays refl refl

pub returns-in_err-end : goal.returns-in_err-end
returns-in_err-end g c =
    let r = c.run.ensures in
    record {
      end = IfOk-from_err c.from_residual.result _ c.from_residual.ensures.0;
      works = IfOk-from_err c.from_residual.result _ c.from_residual.ensures.0;
      pays = search rules;
      same =
          subst (λ (s : SolverState). SameLog s.log c.run.new.self.sink.now) c.self.view_is
          (r.sink_follows c.self.inside.log (same_log c.self.inside.log));
      same_input = ap (λ (s : SolverState). s.input) c.self.view_is;
      waives = search rules;
      same_seen = r.same_seen;
      follows = r.follows;
    }

pub invariant_of-self-then-has_failed : goal.invariant_of-self-then-has_failed
invariant_of-self-then-has_failed g c =
    let old : SolverState = record {
      search = c.self.inside.search;
      input = c.self.inside.input;
      log = c.self.inside.log;
      refuted = c.self.inside.refuted;
      failed = c.self.inside.failed;
    } in
    let new : SolverState = record {
      search = c.run.new.self.search.now;
      input = c.self.inside.input;
      log = c.run.new.self.sink.now;
      refuted = c.self.inside.refuted;
      failed = true;
    } in
    let same = c.run.ensures.sink_follows old.log (same_log old.log) in
    let e = c.in_ok-end.ensures.search in
    let left = c.run.new.self.budget.now in
    searched_fails old new c.args.budget.now left c.self.invariant same refl e.pays
    (ended_stays new left c.in_ok-end.end e.ends) refl refl

pub returns-then-has_failed : goal.returns-then-has_failed
returns-then-has_failed g c =
    let r = c.run.ensures in
    record {
      end = tt;
      works = tt;
      pays = search rules;
      same =
          subst (λ (s : SolverState). SameLog s.log c.run.new.self.sink.now) c.self.view_is
          (r.sink_follows c.self.inside.log (same_log c.self.inside.log));
      same_input = ap (λ (s : SolverState). s.input) c.self.view_is;
      waives = search rules;
      same_seen = r.same_seen;
      follows = r.follows;
    }

pub invariant_of-self-then-is_refutation : goal.invariant_of-self-then-is_refutation
invariant_of-self-then-is_refutation g c =
    let old : SolverState = record {
      search = c.self.inside.search;
      input = c.self.inside.input;
      log = c.self.inside.log;
      refuted = c.self.inside.refuted;
      failed = c.self.inside.failed;
    } in
    let new : SolverState = record {
      search = c.run.new.self.search.now;
      input = c.self.inside.input;
      log = c.run.new.self.sink.now;
      refuted = true;
      failed = false;
    } in
    let same = c.run.ensures.sink_follows old.log (same_log old.log) in
    let works : old.failed ≡ false =
    ap (λ (s : SolverState). s.failed) c.self.view_is ∙ c.requires.works in
    let e = c.in_ok-end.ensures.search in
    let left = c.run.new.self.budget.now in
    let is = c.is_refutation.ensures.yes c.if-is_refutation.true in
    let ended =
    subst (IsGuidedEnd new.search new.input (lines_seen new.log) left) is e.ends in
    let whole = c.has_failed.ensures in
    let l = c.limits.ensures in
    let law = c.texts_are_right.ensures in
    ends_solver old new c.args.budget.now left c.self.invariant works same refl e.pays
    (sym whole ∙ c.if-has_failed.false) refl ended l.kept l.book law.end law.cost

pub returns-then-is_refutation : goal.returns-then-is_refutation
returns-then-is_refutation g c =
    let r = c.run.ensures in
    record {
      end = refl;
      works = refl;
      pays = search rules;
      same =
          subst (λ (s : SolverState). SameLog s.log c.run.new.self.sink.now) c.self.view_is
          (r.sink_follows c.self.inside.log (same_log c.self.inside.log));
      same_input = ap (λ (s : SolverState). s.input) c.self.view_is;
      waives = search rules;
      same_seen = r.same_seen;
      follows = r.follows;
    }

pub invariant_of-self-2 : goal.invariant_of-self-2
invariant_of-self-2 g c =
    let old : SolverState = record {
      search = c.self.inside.search;
      input = c.self.inside.input;
      log = c.self.inside.log;
      refuted = c.self.inside.refuted;
      failed = c.self.inside.failed;
    } in
    let new : SolverState = record {
      search = c.run.new.self.search.now;
      input = c.self.inside.input;
      log = c.run.new.self.sink.now;
      refuted = c.self.inside.refuted;
      failed = false;
    } in
    let same = c.run.ensures.sink_follows old.log (same_log old.log) in
    let works : old.failed ≡ false =
    ap (λ (s : SolverState). s.failed) c.self.view_is ∙ c.requires.works in
    let going : old.refuted ≡ false =
    ap (λ (s : SolverState). s.refuted) c.self.view_is ∙ c.requires.going in
    let e = c.in_ok-end.ensures.search in
    let left = c.run.new.self.budget.now in
    let no = c.is_refutation.ensures.no c.if-is_refutation.false in
    searched_on old new c.args.budget.now left c.self.invariant works same refl e.pays
    (sym c.has_failed.ensures ∙ c.if-has_failed.false) refl going
    (runs_on new left c.in_ok-end.end e.ends no)

pub returns : goal.returns
returns g c =
    let r = c.run.ensures in
    record {
      end = search rules;
      works = refl;
      pays = search rules;
      same =
          subst (λ (s : SolverState). SameLog s.log c.run.new.self.sink.now) c.self.view_is
          (r.sink_follows c.self.inside.log (same_log c.self.inside.log));
      same_input = ap (λ (s : SolverState). s.input) c.self.view_is;
      waives = search rules;
      same_seen = r.same_seen;
      follows = r.follows;
    }
