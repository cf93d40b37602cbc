-- What a clause asks for is done.
use Rattle.std.proofs.Common.{◌*◌, ap, List, sym, ◌∙◌, subst}
use Rattle.std.proofs.lemmas.Result.{MatchResult-from_err}
use Rattle.cnf.specs.Literal.{Literal}
use Rattle.cnf.specs.Marks.{HasPlace}
use Rattle.eliminate_names.specs.Work.{AreClauses}
use Rattle.eliminate.proofs.Assigned.{units_grown, makes_true_grown}
use Rattle.eliminate.proofs.Propagating.{propagates_nothing}
use Rattle.eliminate.proofs.Simplified.{log_of}
use Rattle.eliminate.proofs.States.{places_of}
use Rattle.eliminate_tables.proofs.Laws.{member_has}
use Rattle.eliminate.proofs.units.Units.meet.Goals as goal

pub state-requires-clause-clauses : goal.state-requires-clause-clauses
state-requires-clause-clauses g c =
    subst (λ n. AreClauses n c.args.store.now.slots) (sym c.requires.propagating.fits)
    c.requires.propagating.is_open.simplified.1.state.work.clauses

pub assign-requires-clause-units : goal.assign-requires-clause-units
assign-requires-clause-units g c =
    units_grown c.args.self.now c.args.store.now.slots c.unit_clause.new.store.slots
    c.requires.propagating.units c.in_ok-unit-in-Unit.ensures.grows

pub assign-requires-clause-alone : goal.assign-requires-clause-alone
assign-requires-clause-alone g c = c.in_ok-unit-in-Unit.ensures.alone

pub assign-requires-clause-place : goal.assign-requires-clause-place
assign-requires-clause-place g c =
    let d : List Literal = c.requires.live.0 in
    let f =
    c.requires.propagating.is_open.simplified.1.state.work.clauses c.args.reference d
    c.requires.live.1 in
    let unit = c.in-Unit.ensures d c.requires.live.1 in
    subst (λ n. HasPlace n c.in-Unit.lit)
    (sym (c.requires.propagating.units.places ∙ ap (λ n. 2 * n) c.requires.propagating.fits))
    (member_has (HasPlace (2 * c.args.simplifier.now.vars)) d c.in-Unit.lit
    (places_of c.args.simplifier.now.vars d f.from_one f.small) unit.member)

pub assign-requires-clause-not_true : goal.assign-requires-clause-not_true
assign-requires-clause-not_true g c =
    (c.in-Unit.ensures c.requires.live.0 c.requires.live.1).not_true

pub assign-requires-clause-not_false : goal.assign-requires-clause-not_false
assign-requires-clause-not_false g c =
    (c.in-Unit.ensures c.requires.live.0 c.requires.live.1).not_false

pub returns-in_err-assign-in-Unit-clause-moves : goal.returns-in_err-assign-in-Unit-clause-moves
returns-in_err-assign-in-Unit-clause-moves g c =
    MatchResult-from_err _ _ _ c.from_residual-in_err-assign-in-Unit.ensures.0
    (λ _ start h. log_of start c.unit_clause.new.simplifier c.unit_clause.new.store.slots
    (g.S.Sink.lines c.unit_clause.new.sink) (c.in_ok-unit-in-Unit.ensures.passes start h))

pub returns-in-Settled-clause-moves : goal.returns-in-Settled-clause-moves
returns-in-Settled-clause-moves g c = propagates_nothing _ _ _ _ c.requires.propagating.units

pub returns-in_ok-assign-in-Unit-clause-moves
    : goal.returns-in_ok-assign-in-Unit-clause-moves
returns-in_ok-assign-in-Unit-clause-moves g c = record {
  simplified = c.in_ok-unit-in-Unit.ensures.passes;
  vars = c.in_ok-unit-in-Unit.ensures.vars;
  units =
      λ works. makes_true_grown c.args.self.now c.assign.new.self c.args.store.now.slots
      c.unit_clause.new.store.slots c.in_ok-unit-in-Unit.ensures.grows
      c.in_ok-assign-in-Unit.ensures.units;
}

pub returns-in_err-unit-in-Unit-clause-moves : goal.returns-in_err-unit-in-Unit-clause-moves
returns-in_err-unit-in-Unit-clause-moves g c =
    MatchResult-from_err _ _ _ c.from_residual.ensures.0
    (λ _. c.in_err-unit-in-Unit.ensures.passes)

pub returns-in_err-add_empty-in-Falsified-clause-moves
    : goal.returns-in_err-add_empty-in-Falsified-clause-moves
returns-in_err-add_empty-in-Falsified-clause-moves g c =
    MatchResult-from_err _ _ _ c.from_residual-in_err-add_empty-in-Falsified.ensures.0
    (λ _. c.in_err-add_empty-in-Falsified.ensures.passes)
