use Rattle.std.proofs.Common.{◌≡◌, Some, ap, subst}
use Rattle.std.specs.Prelude.{IfNone, IfSome}
use Rattle.std.proofs.lemmas.Result.{IfOk-weaker}
use Rattle.propagate.specs.Trail.{literals_of}
use Rattle.analyze.specs.Analyzer.{IsFixpoint}
use Rattle.cdcl_search.specs.declared.search.Search.{Search}
use Rattle.cdcl_search.proofs.Laws.{writes_none}
use Rattle.cdcl.proofs.Rounds.{open_log}
use Rattle.cdcl.specs.Guiding.{IsGuidedEnd, IsRefutedAtOnce}
use Rattle.cdcl.specs.declared.guided.GuidedEnd.TheVariants.{Refuted}
use Rattle.cdcl.proofs.Guiding.{guided_breaks, guided_after, paid_nothing}
use Rattle.cdcl.proofs.Satisfied.{not_at_once}
use Rattle.cdcl.proofs.guided.turns.Course.round.Goals as goal

pub returns-in_err-conflict-clause-turns : goal.returns-in_err-conflict-clause-turns
returns-in_err-conflict-clause-turns g c =
    let o = c.args.self.now in
    let p = o.input.now in
    let ls = g.S.Sink.lines o.sink.now in
    let b = o.budget.now in
    guided_breaks c.from_residual.result o.search.now c.propagate.new.self p ls ls b b
    c.from_residual.ensures.0 (open_log o.search.now p ls c.requires.runs)
    (paid_nothing p.given ls b)

pub on_conflict-requires-clause-runs : goal.on_conflict-requires-clause-runs
on_conflict-requires-clause-runs g c =
    let o = c.args.self.now in
    c.in_ok-conflict.ensures.runs o.input.now (g.S.Sink.lines o.sink.now) c.requires.runs

pub returns-in-Some-clause-turns : goal.returns-in-Some-clause-turns
returns-in-Some-clause-turns g c =
    let o = c.args.self.now in
    let e = c.in_ok-conflict.ensures in
    let p = o.input.now in
    let ls = g.S.Sink.lines o.sink.now in
    let n = c.on_conflict.new.self in
    guided_after c.on_conflict.result o.search.now c.propagate.new.self n.search.now p ls ls
    (g.S.Sink.lines n.sink.now) o.budget.now n.budget.now e.engine.variables
    (ap (λ (x : Search). x.policy) e.engine.rest) e.grows (writes_none p.given ls)
    c.on_conflict.ensures.turns

pub on_fixpoint-requires-clause-runs : goal.on_fixpoint-requires-clause-runs
on_fixpoint-requires-clause-runs g c =
    let o = c.args.self.now in
    c.in_ok-conflict.ensures.runs o.input.now (g.S.Sink.lines o.sink.now) c.requires.runs

pub returns-in-None-clause-turns : goal.returns-in-None-clause-turns
returns-in-None-clause-turns g c =
    let o = c.args.self.now in
    let e = c.in_ok-conflict.ensures in
    let p = o.input.now in
    let ls = g.S.Sink.lines o.sink.now in
    let n = c.on_fixpoint.new.self in
    guided_after c.on_fixpoint.result o.search.now c.propagate.new.self n.search.now p ls ls
    (g.S.Sink.lines n.sink.now) o.budget.now n.budget.now e.engine.variables
    (ap (λ (x : Search). x.policy) e.engine.rest) e.grows (writes_none p.given ls)
    c.on_fixpoint.ensures.turns

pub returns-in-None-clause-at_once : goal.returns-in-None-clause-at_once
returns-in-None-clause-at_once g c = λ flat.
    let o = c.args.self.now in
    let p = o.input.now in
    let ls = g.S.Sink.lines o.sink.now in
    let s = c.propagate.new.self in
    let fixpoint =
    subst (λ x. IfNone x (IsFixpoint (s.store).slots (literals_of (s.engine).trail))) c.in-None.is
    c.in_ok-conflict.ensures.fixpoint in
    IfOk-weaker c.on_fixpoint.result
    (λ next. IfSome next (IsGuidedEnd c.on_fixpoint.new.self.search.now p
    (g.S.Sink.lines c.on_fixpoint.new.self.sink.now) c.on_fixpoint.new.self.budget.now))
    (λ next. IsRefutedAtOnce p ls → next ≡ Some Refuted)
    (λ next is h. absurd (not_at_once s p ls (c.in_ok-conflict.ensures.runs p ls c.requires.runs)
    fixpoint h)) c.on_fixpoint.ensures.turns.ends
