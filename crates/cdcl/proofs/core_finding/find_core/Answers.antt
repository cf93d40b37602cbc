use Rattle.std.proofs.Common.{◌+◌, ◌≤◌, length, subst, sym, refl}
use Rattle.cdcl_search.specs.declared.search.Search.{Search}
use Rattle.cdcl_search.specs.Running.{Runs, StaysOpen}
use Rattle.cdcl_search.specs.Cores.{HasSubset, IsCoreClause, IsRefusal, IsShown}
use Rattle.cdcl_search.specs.Invariant.{zero_of}
use Rattle.cdcl.specs.Guiding.{PaysOpen}
use Rattle.cdcl.proofs.Rounds.{open_log}
use Rattle.cdcl.proofs.Guiding.{finds_none, finds_fails, open_writes, paid_nothing}
use Rattle.cdcl.proofs.Guiding.{waived_kept, waived_of}
use Rattle.cdcl.proofs.core_finding.find_core.Goals as goal

pub returns-in_default-clause-finds : goal.returns-in_default-clause-finds
returns-in_default-clause-finds g c =
    finds_none c.args.search.now c.args.search.now c.args.input.now c.args.assumptions.now
    (g.S.Sink.lines c.args.sink.now) c.args.budget.now c.requires.runs refl

pub returns-then-not-is_refused-clause-finds : goal.returns-then-not-is_refused-clause-finds
returns-then-not-is_refused-clause-finds g c =
    finds_none c.args.search.now c.args.search.now c.args.input.now c.args.assumptions.now
    (g.S.Sink.lines c.args.sink.now) c.args.budget.now c.requires.runs refl

pub returns-in_err-refusal-clause-finds : goal.returns-in_err-refusal-clause-finds
returns-in_err-refusal-clause-finds g c =
    let p = c.args.input.now in
    let b = c.args.budget.now in
    let ls = g.S.Sink.lines c.args.sink.now in
    finds_fails c.from_residual.result c.refuse.new.self p c.args.assumptions.now ls ls b b
    c.from_residual.ensures.0 (open_log c.args.search.now p ls c.requires.runs)
    (paid_nothing p.given ls b) refl

pub returns-in-Unknown-clause-finds : goal.returns-in-Unknown-clause-finds
returns-in-Unknown-clause-finds g c =
    finds_none c.args.search.now c.refuse.new.self c.args.input.now c.args.assumptions.now
    (g.S.Sink.lines c.args.sink.now) c.args.budget.now c.requires.runs c.refuse.ensures.unchanged

pub returns-in-Shown-clause-finds : goal.returns-in-Shown-clause-finds
returns-in-Shown-clause-finds g c =
    let p = c.args.input.now in
    let b = c.args.budget.now in
    let ls = g.S.Sink.lines c.args.sink.now in
    let asked = c.args.assumptions.now in
    let same = c.refuse.ensures.unchanged in
    record {
      runs = subst (λ (s : Search). Runs s p ls) (sym same) c.requires.runs;
      shown = subst (λ (s : Search). IsShown (s.store).slots asked c.in-Shown.core.items)
          (sym same)
          (subst (IsRefusal c.args.search.now asked) c.in-Shown.is
          (subst (λ x. IsRefusal c.args.search.now x c.in_ok-refusal.refusal) c.lits-2.ensures
          c.in_ok-refusal.ensures.refusal));
      pays = paid_nothing p.given ls b;
      kept = refl;
      err = tt;
    }

pub returns-in_err-learn_core-in-Follows-clause-finds
    : goal.returns-in_err-learn_core-in-Follows-clause-finds
returns-in_err-learn_core-in-Follows-clause-finds g c =
    let p = c.args.input.now in
    let b = c.args.budget.now in
    let ls = g.S.Sink.lines c.args.sink.now in
    let more = g.S.Sink.lines c.learn_core.new.sink in
    let same = c.in_err-learn_core-in-Follows.ensures.err in
    finds_fails c.from_residual-in_err-learn_core-in-Follows.result c.learn_core.new.search p
    c.args.assumptions.now ls more b b c.from_residual-in_err-learn_core-in-Follows.ensures.0
    (subst (StaysOpen p) (sym same) (open_log c.args.search.now p ls c.requires.runs))
    (subst (λ x. PaysOpen p.given ls x b b) (sym same) (paid_nothing p.given ls b)) refl

pub returns-in_ok-learn_core-in-Follows-clause-finds
    : goal.returns-in_ok-learn_core-in-Follows-clause-finds
returns-in_ok-learn_core-in-Follows-clause-finds g c =
    let p = c.args.input.now in
    let ls = g.S.Sink.lines c.args.sink.now in
    let more = g.S.Sink.lines c.learn_core.new.sink in
    let n = c.learn_core.new.search in
    let b = c.args.budget.now in
    let paid = c.count_learned.new.self in
    let refusal =
    subst (IsRefusal c.args.search.now c.args.assumptions.now) c.in-Follows.is
    (subst (λ x. IsRefusal c.args.search.now x c.in_ok-refusal.refusal) c.lits-2.ensures
    c.in_ok-refusal.ensures.refusal) in
    let learns = c.in_ok-learn_core-in-Follows.ensures.learns in
    record {
      runs = learns.runs;
      shown = record {
        assumed = refusal.assumed;
        shown = subst (HasSubset n.store.slots) (sym refusal.negated) learns.has;
      };
      pays = (
        1,
        open_writes p.given ls more 1 learns.writes,
        waived_kept b paid (b.learned + 1) c.count_learned.ensures,
      );
      kept = waived_of b paid (b.learned + 1) c.count_learned.ensures;
      err = tt;
    }

pub refuse-requires-clause-ready : goal.refuse-requires-clause-ready
refuse-requires-clause-ready g c =
    let runs = c.requires.runs in
    record {
      searches = runs.running.searches;
      room = runs.room;
      named = runs.running.recorded.names.as_many;
    }

pub learn_core-requires : goal.learn_core-requires
learn_core-requires g c =
    let s = c.args.search.now in
    let p = c.args.input.now in
    let ls = g.S.Sink.lines c.args.sink.now in
    let same = sym c.refuse.ensures.unchanged in
    let refusal =
    subst (IsRefusal s c.lits-2.result.now) c.in-Follows.is c.in_ok-refusal.ensures.refusal in
    record {
      runs = subst (λ (x : Search). Runs x p ls) same c.requires.runs;
      noted = subst (λ (x : Search). length (zero_of x.engine.trail) ≤ x.noted) same
          c.requires.noted;
      lesson = subst (λ (x : Search). IsCoreClause x c.in-Follows.clause) same refusal.lesson;
    }
