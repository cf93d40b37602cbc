-- Literal after literal is looked up.
use Rattle.std.proofs.Common.{◌+◌, true, false, List, length, take, sym, ◌∙◌, ap, subst, arith}
use Rattle.std.proofs.lemmas.Option.{same_Some}
use Rattle.cnf.specs.Literal.{Literal, negation}
use Rattle.cnf.specs.Marks.{mark_of, HasPlace}
use Rattle.eliminate.specs.declared.units.Units.{Units}
use Rattle.eliminate.specs.Units.{IsSettled}
use Rattle.eliminate.proofs.ClauseStates.{HasStateSoFar, settled_true, state_false, state_open}
use Rattle.eliminate.proofs.ClauseStates.{state_second, literal_place, mark_says}
use Rattle.cnf.proofs.Laws.{at_contains}
use Rattle.eliminate.proofs.units.Units.state.Goals as goal
use Rattle.eliminate.proofs.units.Units.state.Goals.{then-not-is_marked+in-Falsified}
use Rattle.eliminate.proofs.units.Units.state.Goals.{else-not-is_marked}

pub is_marked-requires : goal.is_marked-requires
is_marked-requires c =
    let lits : List Literal = c.lits-lit-items.result.now in
    literal_place c.args.self.now c.args.store.now.slots lits c.loop-lit.lit-index c.lit-item.result
    c.requires.units (c.requires.clauses c.args.reference lits c.lits-lit-items.ensures)
    (omega arith) c.lit-item.is

pub returns-then-is_marked : goal.returns-then-is_marked
returns-then-is_marked c d at =
    let u : Units = c.args.self.now in
    let lits : List Literal = c.lits-lit-items.result.now in
    let l : Literal = c.lit-item.result in
    let place = literal_place u c.args.store.now.slots lits c.loop-lit.lit-index l c.requires.units
    (c.requires.clauses c.args.reference lits c.lits-lit-items.ensures) (omega arith)
    c.lit-item.is in
    let t =
    mark_says u c.args.store.now.slots l true c.requires.units place.0 c.if-is_marked.ensures in
    subst (IsSettled u.trail.items) (same_Some lits d (sym c.lits-lit-items.ensures ∙ at))
    (settled_true u c.args.store.now.slots lits l c.requires.units
    (at_contains lits c.loop-lit.lit-index l (omega arith) c.lit-item.is) t)

pub is_marked-requires-in-loop-lit : goal.is_marked-requires-in-loop-lit
is_marked-requires-in-loop-lit c =
    let lits : List Literal = c.lits-lit-items.result.now in
    let place =
    literal_place c.args.self.now c.args.store.now.slots lits c.loop-lit.lit-index
    c.lit-item.result c.requires.units
    (c.requires.clauses c.args.reference lits c.lits-lit-items.ensures) (omega arith)
    c.lit-item.is in
    subst (HasPlace (length c.args.self.now.values)) (sym c.negation.ensures) place

pub returns-in-Unit : goal.returns-in-Unit
returns-in-Unit c d at =
    let u : Units = c.args.self.now in
    let lits : List Literal = c.lits-lit-items.result.now in
    let l : Literal = c.lit-item.result in
    let i = c.loop-lit.lit-index in
    let f = c.requires.clauses c.args.reference lits c.lits-lit-items.ensures in
    let place =
    literal_place u c.args.store.now.slots lits i l c.requires.units f (omega arith)
    c.lit-item.is in
    let open_one = mark_says u c.args.store.now.slots (negation l) false c.requires.units place.0
    (c.if-not-is_marked.ensures ∙ ap (mark_of u.values) c.negation.ensures) in
    subst (IsSettled u.trail.items) (same_Some lits d (sym c.lits-lit-items.ensures ∙ at))
    (state_second u.trail.items lits i l c.in-Unit.field-0 f.no_repeat (omega arith) c.lit-item.is
    open_one (subst (HasStateSoFar u.trail.items (take i lits)) c.in-Unit.is
    c.loop-lit.invariant))

pub unreachable-requires : goal.unreachable-requires
unreachable-requires c =
    subst (HasStateSoFar c.args.self.now.trail.items
    (take c.loop-lit.lit-index c.lits-lit-items.result.now)) c.in-Settled.is c.loop-lit.invariant

pub loop-lit-preserved : goal.loop-lit-preserved
loop-lit-preserved c =
    let u : Units = c.args.self.now in
    let lits : List Literal = c.lits-lit-items.result.now in
    let l : Literal = c.lit-item.result in
    let i = c.loop-lit.lit-index in
    let f = c.requires.clauses c.args.reference lits c.lits-lit-items.ensures in
    let place =
    literal_place u c.args.store.now.slots lits i l c.requires.units f (omega arith)
    c.lit-item.is in
    elim c.if-not-is_marked.branch [
      | then-not-is_marked+in-Falsified w ↦
          let not_true =
          mark_says u c.args.store.now.slots l false c.requires.units place.0
          c.if-is_marked.ensures in
          let not_false =
          mark_says u c.args.store.now.slots (negation l) false c.requires.units place.0
          (w.if-not-is_marked.ensures ∙ ap (mark_of u.values) c.negation.ensures) in
          subst (HasStateSoFar u.trail.items (take (i + 1) lits)) (sym w.found-is)
          (state_open u.trail.items lits i l (omega arith) c.lit-item.is not_true not_false
          (subst (HasStateSoFar u.trail.items (take i lits)) w.in-Falsified.is
          c.loop-lit.invariant))
      | else-not-is_marked w ↦
          let is_false =
          mark_says u c.args.store.now.slots (negation l) true c.requires.units place.0
          (w.if-not-is_marked.ensures ∙ ap (mark_of u.values) c.negation.ensures) in
          subst (HasStateSoFar u.trail.items (take (i + 1) lits)) (sym w.found-is)
          (state_false u.trail.items lits i l c.loop-lit.found (omega arith) c.lit-item.is is_false
          c.loop-lit.invariant)
    ]
