-- The clause itself, or one that is added: the literal that is open follows by the units.
use Rattle.std.proofs.Common.{◌≡◌, ◌++◌, ◌∷◌, [], List, Some, refl, sym, ◌∙◌, ap, subst}
use Rattle.std.proofs.lemmas.Result.{MatchResult-from_err}
use Rattle.cnf.specs.Literal.{Literal}
use Rattle.clauses.specs.Slots.{Slots, clause_at}
use Rattle.lrat_log.specs.declared.lines.Kind.TheVariants.{Unit}
use Rattle.lrat_log.specs.Log.{LogLine}
use Rattle.eliminate.specs.declared.simplifier.Simplifier.{Simplifier}
use Rattle.eliminate_names.specs.Work.{AreClauses}
use Rattle.eliminate.specs.State.{Start}
use Rattle.eliminate.specs.Simplifier.{Grows, IsSimplified}
use Rattle.eliminate.proofs.Assigned.{single}
use Rattle.clauses.proofs.Laws.{clause_kept, clause_new}
use Rattle.eliminate.proofs.Simplified.{log_of}
use Rattle.eliminate.proofs.Tables.{addable_at, leaves_beside, simplified_beside}
use Rattle.eliminate.proofs.UnitLines.{unit_addable}
use Rattle.eliminate.proofs.units.Units.unit_clause.Given.{Over}
use Rattle.eliminate.proofs.units.Units.unit_clause.Goals as goal
use Rattle.eliminate.proofs.units.Units.unit_clause.Goals.{In_ok-push}

-- the clause in hand has the literal alone
alone : (g : Over) (c : In_ok-push g) → c.push.new.self.items ≡ c.args.implied.now.lit ∷ []
alone g c = c.in_ok-push.ensures.items
    ∙ ap (λ (xs : List Literal). xs ++ c.args.implied.now.lit ∷ []) c.clear.ensures.items

pub returns-then-lits-eq1-clause-alone : goal.returns-then-lits-eq1-clause-alone
returns-then-lits-eq1-clause-alone g c =
    let d : List Literal = c.lits.result.now in
    let unit = c.requires.unit d c.lits.ensures in
    c.lits.ensures ∙ ap Some (single d c.args.implied.now.lit c.if-lits-eq1.true unit.member)

pub hints-requires-clause-clauses : goal.hints-requires-clause-clauses
hints-requires-clause-clauses g c =
    subst (λ n. AreClauses n c.args.store.now.slots) (sym c.requires.propagating.fits)
    c.requires.propagating.is_open.simplified.1.state.work.clauses

pub add-requires-clause-line : goal.add-requires-clause-line
add-requires-clause-line g c start h =
    let s : Simplifier = record c.args.simplifier.now { clause = c.push.new.self } in
    let ls : List LogLine = g.S.Sink.lines c.args.sink.now in
    let d = c.requires.live.0 in
    let at = c.requires.live.1 in
    addable_at start s ls Unit c.push.new.self.items (c.args.implied.now.lit ∷ [])
    c.deref.result.now _
    (alone g (goal.at.add-requires-clause-line g c).In_ok-push)
    (c.deref.ensures.value ∙ c.in_ok-hints.ensures d at)
    (unit_addable start s c.args.store.now.slots ls c.args.self.now h c.requires.propagating.units d
    c.args.implied.now.by at c.args.implied.now.lit (c.requires.unit d at))

pub returns-in_err-unit-clause-passes : goal.returns-in_err-unit-clause-passes
returns-in_err-unit-clause-passes g c =
    MatchResult-from_err _ _ _ c.from_residual-in_err-unit.ensures.0
    (λ _. leaves_beside c.args.simplifier.now c.args.simplifier.now.marks c.push.new.self
    c.args.store.now.slots (g.S.Sink.lines c.args.sink.now) (g.S.Sink.lines c.add.new.sink) refl
    c.in_err-unit.ensures.passes)

pub returns-clause-alone : goal.returns-clause-alone
returns-clause-alone g c =
    let slots : Slots = c.args.store.now.slots in
    ap (λ xs. clause_at xs c.in_ok-unit.unit) c.in_ok-unit.ensures.adds.slots
    ∙ ap (clause_at (slots ++ Some c.push.new.self.items ∷ [])) c.in_ok-unit.ensures.adds.reference
    ∙ clause_new slots c.push.new.self.items
    ∙ ap Some (alone g (goal.at.returns-clause-alone g c).In_ok-push)

pub returns-clause-grows : goal.returns-clause-grows
returns-clause-grows g c =
    subst (Grows c.args.store.now.slots) (sym c.in_ok-unit.ensures.adds.slots)
    (λ r d e. clause_kept c.args.store.now.slots c.push.new.self.items d r e)

pub returns-then-lits-eq1-clause-passes : goal.returns-then-lits-eq1-clause-passes
returns-then-lits-eq1-clause-passes g c = λ _ h. h

pub hints-requires-clause-named : goal.hints-requires-clause-named
hints-requires-clause-named g c =
    c.requires.propagating.is_open.simplified.1.state.work.named.long

pub returns-in_err-hints-clause-passes : goal.returns-in_err-hints-clause-passes
returns-in_err-hints-clause-passes g c =
    MatchResult-from_err _ _ _ c.from_residual.ensures.0
    (λ _ start h. log_of start c.args.simplifier.now c.args.store.now.slots
    (g.S.Sink.lines c.args.sink.now) h)

pub returns-in_err-push-clause-passes : goal.returns-in_err-push-clause-passes
returns-in_err-push-clause-passes g c =
    MatchResult-from_err _ _ _ c.from_residual-in_err-push.ensures.0
    (λ _ start h. log_of start c.args.simplifier.now c.args.store.now.slots
    (g.S.Sink.lines c.args.sink.now) h)

-- the clause in hand says nothing
beside : (g : Over) (c : In_ok-push g) (start : Start)
    → IsSimplified start c.args.simplifier.now c.args.store.now.slots
    (g.S.Sink.lines c.args.sink.now)
    → IsSimplified start (record c.args.simplifier.now { clause = c.push.new.self })
    c.args.store.now.slots (g.S.Sink.lines c.args.sink.now)
beside g c start h =
    let s : Simplifier = c.args.simplifier.now in
    simplified_beside start s s.marks c.push.new.self s.schedule c.args.store.now.slots
    (g.S.Sink.lines c.args.sink.now) refl h

pub add-requires-clause-is_open : goal.add-requires-clause-is_open
add-requires-clause-is_open g c =
    let w = c.requires.propagating.is_open in
    let h = w.simplified in
    record {
      simplified = (h.0, beside g (goal.at.add-requires-clause-is_open g c).In_ok-push h.0 h.1);
      going = w.going;
    }

pub returns-clause-passes : goal.returns-clause-passes
returns-clause-passes g c start h =
    c.in_ok-unit.ensures.passes start
    (beside g (goal.at.returns-clause-passes g c).In_ok-push start h)
