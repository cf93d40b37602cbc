-- The false literals of the clause, one after another, have clauses of one literal.
use Rattle.std.proofs.Common.{◌≡◌, ℕ, ◌-◌, ◌<◌, ◌∷◌, [], true, List, length, get_or, map, Option}
use Rattle.std.proofs.Common.{None, sym, ◌∙◌, ap, subst, arith, Vec, Global}
use Rattle.std.specs.Prelude.{unwrap_or}
use Rattle.std.proofs.lemmas.Option.{none-some, same_Some}
use Rattle.cnf.specs.Literal.{Literal, negation}
use Rattle.cnf.specs.Marks.{mark_of, HasPlace}
use Rattle.lrat_log.specs.declared.lines.Name.{Name}
use Rattle.lrat_log.specs.declared.lines.Hint.{Hint}
use Rattle.lrat_log.specs.declared.lines.Hint.TheVariants.{Plain}
use Rattle.eliminate.specs.declared.units.Units.{Units}
use Rattle.eliminate_names.specs.Work.{name_at}
use Rattle.eliminate.specs.Units.{unit_of, unit_name}
use Rattle.clauses.proofs.Laws.{live_within}
use Rattle.eliminate.proofs.ClauseStates.{literal_place, mark_says}
use Rattle.eliminate.proofs.UnitLines.{looked_up, falsified_more, falsified_same}
use Rattle.eliminate.proofs.units.Units.hints.Goals as goal
use Rattle.eliminate.proofs.units.Units.hints.Goals.{then-is_marked+in-Some+in_ok-push-in-Some}
use Rattle.eliminate.proofs.units.Units.hints.Goals.{else-is_marked}

pub is_marked-requires : goal.is_marked-requires
is_marked-requires c =
    let lits : List Literal = c.lits-lit-items.result.now in
    let place =
    literal_place c.args.self.now c.args.store.now.slots lits c.loop-lit.lit-index
    c.lit-item.result c.requires.units
    (c.requires.clauses c.args.reference lits c.lits-lit-items.ensures) (omega arith)
    c.lit-item.is in
    subst (HasPlace (length c.args.self.now.values)) (sym c.negation.ensures) place

pub index-requires : goal.index-requires
index-requires c =
    let lits : List Literal = c.lits-lit-items.result.now in
    let place =
    literal_place c.args.self.now c.args.store.now.slots lits c.loop-lit.lit-index
    c.lit-item.result c.requires.units
    (c.requires.clauses c.args.reference lits c.lits-lit-items.ensures) (omega arith)
    c.lit-item.is in
    omega (
      arith,
      place.0,
      place.1,
      c.requires.units.places,
      c.variable.ensures.variable,
      c.args.self.now.clauses.ok.0,
    )

pub get-requires-in-Some : goal.get-requires-in-Some
get-requires-in-Some c =
    let u : Units = c.args.self.now in
    let l : Literal = c.lit-item.result in
    let lits : List Literal = c.lits-lit-items.result.now in
    let place = literal_place u c.args.store.now.slots lits c.loop-lit.lit-index l c.requires.units
    (c.requires.clauses c.args.reference lits c.lits-lit-items.ensures) (omega arith)
    c.lit-item.is in
    let on = mark_says u c.args.store.now.slots (negation l) true c.requires.units place.0
    (c.if-is_marked.ensures ∙ ap (mark_of u.values) c.negation.ensures) in
    let by = c.requires.units.by_units (negation l) on in
    let lt : c.variable.result - 1 < length u.clauses.items =
    omega (arith, place.0, place.1, c.requires.units.places, c.variable.ensures.variable) in
    let read : c.index.result.now ≡ get_or u.clauses.items (l.variable - 1) None =
    looked_up u.clauses.items c.variable.result l c.index.result.now c.variable.ensures.variable
    lt c.index.ensures in
    let same : c.in-Some.unit ≡ by.place =
    same_Some c.in-Some.unit by.place (c.in-Some.ensures ∙ read ∙ by.there) in
    let within : by.place < length c.args.store.now.slots =
    live_within c.args.store.now.slots by.place (negation l ∷ []) by.alone in
    let e = c.requires.named in
    omega arith

pub unreachable-requires : goal.unreachable-requires
unreachable-requires c =
    let u : Units = c.args.self.now in
    let l : Literal = c.lit-item.result in
    let lits : List Literal = c.lits-lit-items.result.now in
    let place = literal_place u c.args.store.now.slots lits c.loop-lit.lit-index l c.requires.units
    (c.requires.clauses c.args.reference lits c.lits-lit-items.ensures) (omega arith)
    c.lit-item.is in
    let on = mark_says u c.args.store.now.slots (negation l) true c.requires.units place.0
    (c.if-is_marked.ensures ∙ ap (mark_of u.values) c.negation.ensures) in
    let by = c.requires.units.by_units (negation l) on in
    let lt : c.variable.result - 1 < length u.clauses.items =
    omega (arith, place.0, place.1, c.requires.units.places, c.variable.ensures.variable) in
    let read : c.index.result.now ≡ get_or u.clauses.items (l.variable - 1) None =
    looked_up u.clauses.items c.variable.result l c.index.result.now c.variable.ensures.variable
    lt c.index.ensures in
    none-some by.place (c.in-None.ensures ∙ read ∙ by.there)

pub get-requires-2 : goal.get-requires-2
get-requires-2 c = let lt =
    live_within c.args.store.now.slots c.args.reference c.requires.live.0 c.requires.live.1 in
    let e = c.requires.named in omega arith

pub loop-lit-preserved : goal.loop-lit-preserved
loop-lit-preserved c =
    let u : Units = c.args.self.now in
    let lits : List Literal = c.lits-lit-items.result.now in
    let l : Literal = c.lit-item.result in
    let i = c.loop-lit.lit-index in
    let names : List Name = c.args.names.now.names in
    let place =
    literal_place u c.args.store.now.slots lits i l c.requires.units
    (c.requires.clauses c.args.reference lits c.lits-lit-items.ensures) (omega arith)
    c.lit-item.is in
    elim c.if-is_marked.branch [
      | then-is_marked+in-Some+in_ok-push-in-Some w ↦
          let lt : w.variable.result - 1 < length u.clauses.items =
          omega (arith, place.0, place.1, c.requires.units.places, w.variable.ensures.variable) in
          let read : w.index.result.now ≡ get_or u.clauses.items (l.variable - 1) None =
          looked_up u.clauses.items w.variable.result l w.index.result.now
          w.variable.ensures.variable lt w.index.ensures in
          let unit : w.in-Some.unit ≡ unit_of u.clauses.items l =
          ap (λ (o : Option ℕ). unwrap_or o 0) (w.in-Some.ensures ∙ read) in
          falsified_more u names lits i l c.loop-lit.hints.items c.if-is_marked.hints.items
          w.get-in-Some.result (omega arith) c.lit-item.is
          (sym (ap (mark_of u.values) c.negation.ensures) ∙ sym w.if-is_marked.ensures)
          (w.get-in-Some.ensures ∙ ap (name_at names) unit) c.loop-lit.invariant
          (ap (λ (v : Vec Hint Global). v.items) w.hints-is ∙ w.in_ok-push-in-Some.ensures.items)
      | else-is_marked w ↦
          ap (λ (v : Vec Hint Global). v.items) w.hints-is ∙ c.loop-lit.invariant
          ∙ ap (map (λ k. Plain (unit_name u.clauses.items names k)))
          (falsified_same u lits i l (omega arith) c.lit-item.is
          (sym (ap (mark_of u.values) c.negation.ensures) ∙ sym w.if-is_marked.ensures))
    ]
