use Rattle.std.proofs.Common.{◌≡◌, ◌≤◌, ◌<◌, ◌≢◌, ◌-◌, true, false, Some, [], ◌∷◌, length, get_or}
use Rattle.std.proofs.Common.{take, subst, sym, ◌∙◌, ap, rules, arith}
use Rattle.std.specs.Prelude.{IfSome, unwrap_or}
use Rattle.std.proofs.lemmas.List.{take_all, get_or_default}
use Rattle.std.proofs.lemmas.List.Elements.{All-set}
use Rattle.std.proofs.lemmas.Option.{none-some, same_Some}
use Rattle.propagate.specs.Trail.{level_in, value_in}
use Rattle.propagate.specs.Watches.{IsVariable}
use Rattle.lrat_log.specs.declared.lines.Name.TheVariants.{Formula}
use Rattle.cdcl_search.specs.Invariant.{name_at, zero_of}
use Rattle.cdcl_search.specs.Hinting.{IsNotedIn}
use Rattle.cdcl_search.specs.Moves.{Gathers, unit_at}
use Rattle.cdcl_search.proofs.Gathering.{literal_within, gathers_miss, gathers_hit, other_level}
use Rattle.cdcl_search.proofs.Gathering.{other_value, met_before, gathers_clause, found_unit}
use Rattle.cdcl_search.proofs.Places.{live_within}
use Rattle.cdcl_search.proofs.hints.add_units.Goals as goal
use Rattle.cdcl_search.proofs.hints.add_units.Goals.{After-variable-variable}
use Rattle.cdcl_search.proofs.hints.add_units.Goals.{
  then-eq+then-stamps-place+then-eq-2+in-Some+in_ok-push-in-Some,
}
use Rattle.cdcl_search.proofs.hints.add_units.Goals.{else-eq}
use Rattle.cdcl_search.proofs.hints.add_units.Goals.{
  else-eq-via-then-eq+then-stamps-place+else-eq-2,
}
use Rattle.cdcl_search.proofs.hints.add_units.Goals.{else-eq-via-then-eq+else-stamps-place}
use Rattle.cdcl_search.proofs.hints.add_units.Goals.{else-eq-via-else-eq}
use Rattle.cnf.specs.Literal.{negation}
use Rattle.cnf.specs.Clause.{contains_literal}

-- the literal has a variable of the engine
inside : (c : After-variable-variable)
    → IsVariable c.args.sources.now.engine.now.variables c.lit-item.result
inside c =
    literal_within c.args.sources.now.engine.now c.args.sources.now.store.now.slots c.args.reference
    c.lits-lit-items.result.now c.loop-lit.lit-index c.lit-item.result c.requires.tables.fits
    c.requires.attached
    c.lits-lit-items.ensures c.loop-lit-test.true c.lit-item.is

pub loop-lit-init : goal.loop-lit-init
loop-lit-init c = record { past = c.requires.past; gathers = λ all done listed g. g }

pub bounds-stamps-place : goal.bounds-stamps-place
bounds-stamps-place c =
    omega (
      arith,
      inside (goal.at.bounds-stamps-place c).After-variable-variable,
      c.variable-variable.ensures.variable,
      c.loop-lit.auto.stamps,
      c.requires.tables.stamps,
    )

pub level-requires : goal.level-requires
level-requires c = omega (
  arith,
  inside (goal.at.level-requires c).After-variable-variable,
  c.variable-variable.ensures.variable,
)

pub value-requires : goal.value-requires
value-requires c = (inside (goal.at.value-requires c).After-variable-variable).1

pub bounds-stamps-place-then-eq-2 : goal.bounds-stamps-place-then-eq-2
bounds-stamps-place-then-eq-2 c =
    omega (
      arith,
      inside (goal.at.bounds-stamps-place-then-eq-2 c).After-variable-variable,
      c.variable-variable.ensures.variable,
      c.loop-lit.auto.stamps,
      c.requires.tables.stamps,
    )

pub bounds-units-place : goal.bounds-units-place
bounds-units-place c = omega (
  arith,
  inside (goal.at.bounds-units-place c).After-variable-variable,
  c.variable-variable.ensures.variable,
  c.requires.tables.units,
)

pub bounds-names-index : goal.bounds-names-index
bounds-names-index c =
    let f = c.args.sources.now in
    let zero : c.level.result ≡ Some 0 = search rules in
    let value : c.value.result ≡ Some false = search rules in
    let has =
    found_unit f.engine.now f.store.now.slots f.units.now c.args.reference
    c.lits-lit-items.result.now c.loop-lit.lit-index c.lit-item.result c.requires.tables.fits
    c.requires.noted c.lits-lit-items.ensures c.loop-lit-test.true c.lit-item.is
    c.variable-variable.result c.index-units-place.result c.variable-variable.ensures.variable
    (sym c.level.ensures ∙ zero) (sym c.value.ensures ∙ value) c.index-units-place.is in
    let same : c.in-Some.unit ≡ has.0 =
    same_Some c.in-Some.unit has.0 (sym c.in-Some.is ∙ c.get.ensures ∙ has.1) in
    let inside_store =
    live_within f.store.now.slots has.0 (negation c.lit-item.result ∷ []) has.3 in
    omega (arith, c.requires.tables.named)

pub unreachable-requires : goal.unreachable-requires
unreachable-requires c =
    let f = c.args.sources.now in
    let zero : c.level.result ≡ Some 0 = search rules in
    let value : c.value.result ≡ Some false = search rules in
    let has =
    found_unit f.engine.now f.store.now.slots f.units.now c.args.reference
    c.lits-lit-items.result.now c.loop-lit.lit-index c.lit-item.result c.requires.tables.fits
    c.requires.noted c.lits-lit-items.ensures c.loop-lit-test.true c.lit-item.is
    c.variable-variable.result c.index-units-place.result c.variable-variable.ensures.variable
    (sym c.level.ensures ∙ zero) (sym c.value.ensures ∙ value) c.index-units-place.is in
    none-some has.0 (sym c.in-None.is ∙ c.get.ensures ∙ has.1)

pub loop-lit-preserved : goal.loop-lit-preserved
loop-lit-preserved c =
    let e = c.args.sources.now.engine.now in
    let T = e.trail in
    let S = c.args.sources.now.store.now.slots in
    let N = c.args.sources.now.names.now in
    let U = c.args.sources.now.units.now in
    let lits = c.lits-lit-items.result.now in
    let i = c.loop-lit.lit-index in
    let l = c.lit-item.result in
    let stamp = c.args.stamp in
    let stamps = c.loop-lit.stamps in
    let inside =
    literal_within e S c.args.reference lits i l c.requires.tables.fits c.requires.attached
    c.lits-lit-items.ensures c.loop-lit-test.true c.lit-item.is in
    let variable : c.variable-variable.result ≡ l.variable = c.variable-variable.ensures.variable in
    let room : l.variable - 1 < length stamps =
    omega (arith, c.loop-lit.auto.stamps, c.requires.tables.stamps) in
    let here : get_or stamps (c.variable-variable.result - 1) 0 ≡ get_or stamps (l.variable - 1) 0 =
    ap (λ v. get_or stamps (v - 1) 0) variable in
    let reasons = c.requires.tables.fits.reasons in
    let live = c.lits-lit-items.ensures in
    elim c.if-eq.branch [
      | then-eq+then-stamps-place+then-eq-2+in-Some+in_ok-push-in-Some w ↦
          let zero : c.level.result ≡ Some 0 = search rules in
          let value : w.value.result ≡ Some false = search rules in
          let level : level_in T l.variable ≡ Some 0 = sym (ap (level_in T) variable)
          ∙ sym c.level.ensures ∙ zero in
          let is_false : value_in T l ≡ Some false = sym w.value.ensures ∙ value in
          let has =
          found_unit e S U c.args.reference lits i l c.requires.tables.fits c.requires.noted live
          c.loop-lit-test.true c.lit-item.is
          c.variable-variable.result w.index-units-place.result variable (sym c.level.ensures
          ∙ zero) is_false w.index-units-place.is in
          let same : w.in-Some.unit ≡ has.0 =
          same_Some w.in-Some.unit has.0 (sym w.in-Some.is ∙ w.get.ensures ∙ has.1) in
          let unit : w.index.result ≡ unit_at U l =
          w.index.ensures ∙ same ∙ sym (ap (λ o. unwrap_or o 0) has.2) in
          let inside_store = live_within S has.0 (negation l ∷ []) has.3 in
          let name : w.name.result ≡ name_at N (unit_at U l) =
          w.name.ensures ∙ w.index-names-index.is
          ∙ get_or_default N w.index.result w.index-names-index.result (Formula 0)
          (omega (arith, c.requires.tables.named)) ∙ ap (name_at N) unit in
          let fresh : get_or stamps (l.variable - 1) 0 < stamp =
          omega (arith, here, w.if-stamps-place.true) in
          rw (w.stamps-is, w.hints-is, w.in_ok-push-in-Some.ensures.items, variable) (record {
            past =
                All-set (λ n. n ≤ stamp) stamps (l.variable - 1) stamp (omega arith)
                c.loop-lit.invariant.past;
            gathers =
                λ all done listed g. gathers_hit S N U T stamp all done c.args.reference lits listed
                reasons live i stamps c.loop-lit.hints.items l w.name.result
                (c.loop-lit.invariant.gathers all done listed g) c.loop-lit-test.true c.lit-item.is
                level is_false fresh room inside.0
                (subst (λ o. IfSome o (IsNotedIn S U T)) live c.requires.noted) name;
          })
      | else-eq w ↦ rw (w.stamps-is, w.hints-is) (record {
        past = c.loop-lit.invariant.past;
        gathers = λ all done listed g. (let old = c.loop-lit.invariant.gathers all done listed g in
            gathers_miss S N U T stamp all done c.args.reference lits listed reasons live i stamps
            c.loop-lit.hints.items l old c.loop-lit-test.true c.lit-item.is
            (elim w.else-eq.branch as (λ _. contains_literal (negation l) (zero_of T)
            ≡ true → contains_literal (negation l) old.zeros ≡ true) [
              | else-eq-via-then-eq+then-stamps-place+else-eq-2 x ↦
                  let value : x.value.result ≢ Some false = search rules in
                  other_value S N U T stamp all done c.args.reference lits listed reasons live
                  old.zeros l (λ y. value (x.value.ensures ∙ y))
              | else-eq-via-then-eq+else-stamps-place x ↦
                  let low : get_or stamps (l.variable - 1) 0 ≤ stamp =
                  c.loop-lit.invariant.past (l.variable - 1) 0 room in
                  let met : get_or stamps (l.variable - 1) 0 ≡ stamp =
                  omega (arith, here, x.if-stamps-place.false) in
                  met_before S N U T stamp all done c.args.reference lits listed reasons live
                  (take i lits) stamps c.loop-lit.hints.items l old inside.0 room met
              | else-eq-via-else-eq x ↦
                  let other : c.level.result ≢ Some 0 = search rules in
                  other_level S N U T stamp all done c.args.reference lits listed reasons live
                  old.zeros l (λ y. other (c.level.ensures ∙ ap (level_in T) variable ∙ y))
            ]));
      })
    ]

pub returns-clause-gathers : goal.returns-clause-gathers
returns-clause-gathers c all done listed g =
    let f = c.args.sources.now in
    let e = f.engine.now in
    let S = f.store.now.slots in
    let lits = c.lits-lit-items.result.now in
    gathers_clause S f.names.now f.units.now e.trail c.args.stamp all done
    c.args.reference lits listed c.requires.tables.fits.reasons c.lits-lit-items.ensures
    c.loop-lit.stamps c.loop-lit.hints.items
    (subst (λ x. Gathers S f.names.now f.units.now e.trail c.args.stamp all done x
    c.loop-lit.stamps c.loop-lit.hints.items)
    (take_all c.loop-lit.lit-index lits c.loop-lit-test.false)
    (c.loop-lit.invariant.gathers all done listed g))
