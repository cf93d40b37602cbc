use Rattle.std.proofs.Common.{◌≡◌, ◌∙◌, refl, sym, ap, subst, arith}
use Rattle.std.proofs.lemmas.Option.{none-some, same_Some}
use Rattle.propagate.specs.Trail.{depth_of, kept_to}
use Rattle.propagate.proofs.Laws.{kept_low}
use Rattle.cdcl_search.specs.Running.{Runs, StaysOpen}
use Rattle.cdcl.specs.Guiding.{IsGuidedEnd, IsRefutedAtOnce}
use Rattle.cdcl.specs.declared.guided.GuidedEnd.TheVariants.{Refuted}
use Rattle.cdcl.proofs.Guiding.{guided_fails, paid_waived, paid_join, turns_of}
use Rattle.cdcl.proofs.guided.turns.Course.run.Goals as goal

pub rounds-init : goal.rounds-init
rounds-init g c =
    let o = c.args.self.now in
    record {
      same = (refl, refl, refl, refl);
      runs = c.begin.ensures.runs o.input.now (g.S.Sink.lines o.sink.now) c.requires.runs;
      at_once = λ h.
          (let low = kept_low 0 (o.search.now.engine).trail in
          let none : depth_of (kept_to 0 (o.search.now.engine).trail) ≡ 0 = omega arith in
          (ap depth_of c.begin.ensures.trail ∙ none, refl));
      pays = paid_waived o.input.now.given (g.S.Sink.lines o.sink.now) o.budget.now
          c.heed.new.budget c.heed.ensures.budget;
      follows = λ first f. c.went_back.ensures.follows first f;
      sink_follows = λ first f. f;
      same_seen = c.heed.ensures.same_seen;
      waives = c.heed.ensures.waives;
    }

pub rounds-preserved : goal.rounds-preserved
rounds-preserved g c =
    let o = c.args.self.now in
    let m = c.rounds.self in
    let n = c.round.new.self in
    let lines = g.S.Sink.lines in
    let inv = c.rounds.invariant in
    let e = c.round.ensures in
    let turns = turns_of c.round.result m.search.now n.search.now m.input.now o.input.now
    (lines m.sink.now) (lines n.sink.now) m.budget.now n.budget.now inv.same.1 e.turns in
    record {
      same = (
        e.same.0 ∙ inv.same.0,
        e.same.1 ∙ inv.same.1,
        e.same.2 ∙ inv.same.2,
        e.same.3 ∙ inv.same.3,
      );
      runs = (let goes = rw c.in-None.is at c.in_ok-end.ensures.turns.goes in
          subst (λ p. Runs n.search.now p (lines n.sink.now)) (sym e.same.1) goes.runs);
      at_once = λ h.
          (let first = inv.at_once h in
          let ended =
          c.in_ok-end.ensures.at_once first.0
          (subst (λ p. IsRefutedAtOnce p (lines m.sink.now)) (sym inv.same.1)
          (subst (IsRefutedAtOnce o.input.now) (sym first.1) h)) in
          absurd (none-some Refuted (sym c.in-None.is ∙ ended)));
      pays =
          paid_join o.input.now.given (lines o.sink.now) (lines m.sink.now) (lines n.sink.now)
          o.budget.now m.budget.now n.budget.now inv.pays turns.pays;
      follows = λ first f. e.follows first (inv.follows first f);
      sink_follows = λ first f. e.sink_follows first (inv.sink_follows first f);
      same_seen = e.same_seen ∙ inv.same_seen;
      waives = omega (arith, e.waives, inv.waives);
    }

pub returns-in_err-end-clause-same : goal.returns-in_err-end-clause-same
returns-in_err-end-clause-same g c =
    let a = c.rounds.invariant.same in
    let b = c.round.ensures.same in
    (b.0 ∙ a.0, b.1 ∙ a.1, b.2 ∙ a.2, b.3 ∙ a.3)

pub returns-in-Some-clause-same : goal.returns-in-Some-clause-same
returns-in-Some-clause-same g c =
    let a = c.rounds.invariant.same in
    let b = c.round.ensures.same in
    (b.0 ∙ a.0, b.1 ∙ a.1, b.2 ∙ a.2, b.3 ∙ a.3)

pub returns-in_err-end-clause-search : goal.returns-in_err-end-clause-search
returns-in_err-end-clause-search g c =
    let o = c.args.self.now in
    let m = c.rounds.self in
    let n = c.round.new.self in
    let lines = g.S.Sink.lines in
    let inv = c.rounds.invariant in
    let turns = turns_of c.round.result m.search.now n.search.now m.input.now o.input.now
    (lines m.sink.now) (lines n.sink.now) m.budget.now n.budget.now inv.same.1
    c.round.ensures.turns in
    guided_fails c.from_residual.result n.search.now o.input.now (lines o.sink.now)
    (lines n.sink.now) o.budget.now n.budget.now c.from_residual.ensures.0
    (subst (λ p. StaysOpen p (lines n.sink.now)) inv.same.1 c.in_err-end.ensures.turns.err)
    (paid_join o.input.now.given (lines o.sink.now) (lines m.sink.now) (lines n.sink.now)
    o.budget.now m.budget.now n.budget.now inv.pays turns.pays)

pub returns-in-Some-clause-search : goal.returns-in-Some-clause-search
returns-in-Some-clause-search g c =
    let o = c.args.self.now in
    let m = c.rounds.self in
    let n = c.round.new.self in
    let lines = g.S.Sink.lines in
    let inv = c.rounds.invariant in
    let turns = turns_of c.round.result m.search.now n.search.now m.input.now o.input.now
    (lines m.sink.now) (lines n.sink.now) m.budget.now n.budget.now inv.same.1
    c.round.ensures.turns in
    record {
      ends =
          subst (λ p. IsGuidedEnd n.search.now p (lines n.sink.now) n.budget.now c.in-Some.end)
          inv.same.1 (let ends = rw c.in-Some.is at c.in_ok-end.ensures.turns.ends in ends);
      pays =
          paid_join o.input.now.given (lines o.sink.now) (lines m.sink.now) (lines n.sink.now)
          o.budget.now m.budget.now n.budget.now inv.pays turns.pays;
      err = tt;
    }

pub returns-in-Some-clause-at_once : goal.returns-in-Some-clause-at_once
returns-in-Some-clause-at_once g c = λ h.
    let m = c.rounds.self in
    let inv = c.rounds.invariant in
    let first = inv.at_once h in
    let ended =
    c.in_ok-end.ensures.at_once first.0
    (subst (λ p. IsRefutedAtOnce p (g.S.Sink.lines m.sink.now)) (sym inv.same.1)
    (subst (IsRefutedAtOnce c.args.self.now.input.now) (sym first.1) h)) in
    same_Some c.in-Some.end Refuted (sym c.in-Some.is ∙ ended)
