-- One variable more was tried.
use Rattle.std.proofs.Common.{◌≡◌, ◌∙◌, List, ap, refl, sym, subst}
use Rattle.std.proofs.lemmas.Result.{MatchResult-from_err}
use Rattle.cnf.specs.Literal.{Literal}
use Rattle.clauses.specs.Slots.{Slots, StoreState}
use Rattle.lrat_log.specs.Log.{LogLine}
use Rattle.eliminate.specs.declared.simplifier.Simplifier.{Simplifier}
use Rattle.reconstruction.specs.Stack.{IsFree}
use Rattle.cnf.specs.Literal.{positive}
use Rattle.eliminate.specs.Variables.{StaysOver}
use Rattle.eliminate.proofs.Tables.{simplified_beside, simplified_at}
use Rattle.eliminate.proofs.variables.eliminate_variables.Given.{Over}
use Rattle.eliminate.proofs.variables.eliminate_variables.Goals as goal
use Rattle.eliminate.proofs.variables.eliminate_variables.Goals.{
  then-is_free+in_ok-is_gone+else-simplifier,
}
use Rattle.eliminate.proofs.variables.eliminate_variables.Goals.{else-is_free, After-pop}

-- the schedule without its first says as much
popped : (g : Over) (c : After-pop g)
    → StaysOver c.args.frozen.now c.args.simplifier.now c.args.store.now.slots
    (g.S.Sink.lines c.args.sink.now) (record c.loop-try.simplifier { schedule = c.pop.new.self })
    c.loop-try.store.slots (g.S.Sink.lines c.loop-try.sink)
popped g c start same h =
    let s : Simplifier = c.loop-try.simplifier in
    simplified_beside start s s.marks s.clause c.pop.new.self c.loop-try.store.slots
    (g.S.Sink.lines c.loop-try.sink) refl (c.loop-try.invariant.simplified start same h)

pub returns-in_err-is_gone : goal.returns-in_err-is_gone
returns-in_err-is_gone g c =
    MatchResult-from_err _ _ _ c.from_residual.ensures.0
    (λ _ start same h. c.in_err-is_gone.ensures start same
    (popped g (goal.at.returns-in_err-is_gone g c).After-pop start same h))

pub returns-then-simplifier : goal.returns-then-simplifier
returns-then-simplifier g c start same h =
    c.in_ok-is_gone.ensures start same
    (popped g (goal.at.returns-then-simplifier g c).After-pop start same h)

pub loop-try-preserved : goal.loop-try-preserved
loop-try-preserved g c =
    let t : Simplifier = record c.loop-try.simplifier { schedule = c.pop.new.self } in
    let u : Simplifier = c.if-is_free.simplifier in
    let left : Slots = c.loop-try.store.slots in
    let ls : List LogLine = g.S.Sink.lines c.loop-try.sink in
    let kept : Slots = c.if-is_free.store.slots in
    let most : List LogLine = g.S.Sink.lines c.if-is_free.sink in
    let before = popped g (goal.at.loop-try-preserved g c).After-pop in
    elim c.if-is_free.branch [
      | then-is_free+in_ok-is_gone+else-simplifier w ↦ record {
        simplified =
            λ start same h. simplified_at start w.try_variable.new.simplifier u
            w.try_variable.new.store.slots kept (g.S.Sink.lines w.try_variable.new.sink) most
            w.simplifier-is (ap (λ (x : StoreState). x.slots) w.store-is)
            (ap g.S.Sink.lines w.sink-is)
            (w.in_ok-is_gone.ensures start same (before start same h));
        works = ap (λ (x : Simplifier). x.is_refuted) w.simplifier-is ∙ w.if-simplifier.false;
      }
      | else-is_free w ↦ record {
        simplified =
            λ start same h. simplified_at start t u left kept ls most w.simplifier-is
            (ap (λ (x : StoreState). x.slots) w.store-is) (ap g.S.Sink.lines w.sink-is)
            (before start same h);
        works = ap (λ (x : Simplifier). x.is_refuted) w.simplifier-is ∙ c.loop-try.invariant.works;
      }
    ]

pub loop-try-init : goal.loop-try-init
loop-try-init g c = record { simplified = λ _ _ h. h; works = c.requires.going }

pub try_variable-requires-clause-is_open : goal.try_variable-requires-clause-is_open
try_variable-requires-clause-is_open g c =
    let h = c.requires.simplified in
    record {
      simplified = (
        h.0,
        h.1,
        popped g (goal.at.try_variable-requires-clause-is_open g c).After-pop h.0 h.1 h.2,
      );
      going = c.loop-try.invariant.works;
    }

pub try_variable-requires-clause-free : goal.try_variable-requires-clause-free
try_variable-requires-clause-free g c =
    subst (λ (l : Literal). IsFree c.args.frozen.now l.variable) (sym c.new-parents.ensures)
    (c.is_free.ensures c.if-is_free.true)

pub try_variable-requires-clause-plain : goal.try_variable-requires-clause-plain
try_variable-requires-clause-plain g c =
    subst (λ (l : Literal). l ≡ positive l.variable) (sym c.new-parents.ensures) refl

pub returns-in_default : goal.returns-in_default
returns-in_default g c = popped g (goal.at.returns-in_default g c).After-pop

pub returns : goal.returns
returns g c = c.loop-try.invariant.simplified
