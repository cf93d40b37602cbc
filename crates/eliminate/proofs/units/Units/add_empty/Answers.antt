-- The empty clause follows by the units.
use Rattle.std.proofs.Common.{[], ◌∙◌, List, refl, sym, subst}
use Rattle.std.proofs.lemmas.Result.{MatchResult-from_err}
use Rattle.lrat_log.specs.declared.lines.Kind.TheVariants.{Empty}
use Rattle.lrat_log.specs.Log.{LogLine}
use Rattle.eliminate.specs.declared.simplifier.Simplifier.{Simplifier}
use Rattle.eliminate_names.specs.Work.{AreClauses}
use Rattle.eliminate.specs.State.{Start}
use Rattle.eliminate.specs.Simplifier.{IsSimplified}
use Rattle.eliminate.proofs.Simplified.{log_of}
use Rattle.eliminate.proofs.Tables.{addable_at, leaves_beside, simplified_beside}
use Rattle.eliminate.proofs.UnitLines.{empty_addable}
use Rattle.eliminate.proofs.units.Units.add_empty.Given.{Over}
use Rattle.eliminate.proofs.units.Units.add_empty.Goals as goal
use Rattle.eliminate.proofs.units.Units.add_empty.Goals.{After-clear}

pub hints-requires-clause-clauses : goal.hints-requires-clause-clauses
hints-requires-clause-clauses g c =
    subst (λ n. AreClauses n c.args.store.now.slots) (sym c.requires.propagating.fits)
    c.requires.propagating.is_open.simplified.1.state.work.clauses

pub add-requires-clause-line : goal.add-requires-clause-line
add-requires-clause-line g c start h =
    let s : Simplifier = record c.args.simplifier.now { clause = c.clear.new.self } in
    let ls : List LogLine = g.S.Sink.lines c.args.sink.now in
    let d = c.requires.live.0 in
    let at = c.requires.live.1 in
    addable_at start s ls Empty c.clear.new.self.items [] c.deref.result.now _
    c.clear.ensures.items (c.deref.ensures.value ∙ c.in_ok-hints.ensures d at)
    (empty_addable start s c.args.store.now.slots ls c.args.self.now h
    c.requires.propagating.units d c.args.reference at (c.requires.falsified d at))

pub returns-in_err-add-clause-passes : goal.returns-in_err-add-clause-passes
returns-in_err-add-clause-passes g c =
    MatchResult-from_err _ _ _ c.from_residual-in_err-add.ensures.0
    (λ _. leaves_beside c.args.simplifier.now c.args.simplifier.now.marks c.clear.new.self
    c.args.store.now.slots (g.S.Sink.lines c.args.sink.now) (g.S.Sink.lines c.add.new.sink) refl
    c.in_err-add.ensures.passes)

pub hints-requires-clause-named : goal.hints-requires-clause-named
hints-requires-clause-named g c =
    c.requires.propagating.is_open.simplified.1.state.work.named.long

pub returns-in_err-hints-clause-passes : goal.returns-in_err-hints-clause-passes
returns-in_err-hints-clause-passes g c =
    MatchResult-from_err _ _ _ c.from_residual.ensures.0
    (λ _ start h. log_of start c.args.simplifier.now c.args.store.now.slots
    (g.S.Sink.lines c.args.sink.now) h)

-- the clause in hand says nothing
beside : (g : Over) (c : After-clear g) (start : Start)
    → IsSimplified start c.args.simplifier.now c.args.store.now.slots
    (g.S.Sink.lines c.args.sink.now)
    → IsSimplified start (record c.args.simplifier.now { clause = c.clear.new.self })
    c.args.store.now.slots (g.S.Sink.lines c.args.sink.now)
beside g c start h =
    let s : Simplifier = c.args.simplifier.now in
    simplified_beside start s s.marks c.clear.new.self s.schedule c.args.store.now.slots
    (g.S.Sink.lines c.args.sink.now) refl h

pub add-requires-clause-is_open : goal.add-requires-clause-is_open
add-requires-clause-is_open g c =
    let w = c.requires.propagating.is_open in
    let h = w.simplified in
    record {
      simplified = (h.0, beside g (goal.at.add-requires-clause-is_open g c).After-clear h.0 h.1);
      going = w.going;
    }

pub returns-clause-passes : goal.returns-clause-passes
returns-clause-passes g c start h =
    c.in_ok-add.ensures.passes start
    (beside g (goal.at.returns-clause-passes g c).After-clear start h)
