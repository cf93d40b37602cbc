use Rattle.std.proofs.Common.{◌≡◌, ◌<◌, [], ◌∷◌, ◌++◌, List, take, true, Option, Some, None, IfSome}
use Rattle.std.proofs.Common.{refl, get_or, subst, sym, ◌∙◌, ap, arith}
use Rattle.std.proofs.lemmas.List.{take_all, take_more}
use Rattle.cnf.specs.Literal.{Literal}
use Rattle.clauses.specs.Slots.{clause_at}
use Rattle.propagate.specs.Watches.{is_attached}
use Rattle.cdcl_search.specs.Hinting.{IsNotedIn}
use Rattle.cdcl_search.specs.Moves.{Gathers}
use Rattle.cdcl_search.proofs.Places.{live_within}
use Rattle.cdcl_search.proofs.Gathering.{gathers_start, hints_are}
use Rattle.cdcl_search.proofs.hints.gather.Goals as goal

-- so it is of the clause, where there is one
some_holds : (o : Option (List Literal)) (P : List Literal → Type 0)
    → ((x : List Literal) → o ≡ Some x → P x) → IfSome o P
some_holds (Some x) P h = h x refl
some_holds None P h = tt

pub loop-reference-init : goal.loop-reference-init
loop-reference-init c = let f = c.args.sources.now in record {
  past = λ k d lt. omega (arith, c.requires.past k d lt);
  gathers =
      subst (Gathers f.store.now.slots f.names.now f.units.now
      f.engine.now.trail
      c.args.stamp c.args.references.now [] [] c.args.stamps.now) (sym c.new-hints.ensures.items)
      (gathers_start f.store.now.slots f.names.now f.units.now
      f.engine.now.trail c.args.stamp c.args.references.now c.args.stamps.now
      c.requires.past);
}

pub loop-reference-preserved : goal.loop-reference-preserved
loop-reference-preserved c =
    let f = c.args.sources.now in
    let rs = c.args.references.now in
    let i = c.loop-reference.reference-index in
    let more = take_more rs i c.reference-item.result c.loop-reference-test.true
    ∙ ap (λ x. take i rs ++ x ∷ []) (sym c.reference-item.is) in
    record {
      past = c.add_units.ensures.past;
      gathers =
          subst (λ x. Gathers f.store.now.slots f.names.now f.units.now
          f.engine.now.trail c.args.stamp c.args.references.now x [] c.add_units.new.stamps
          c.add_units.new.hints.items) (sym more)
          (c.in_ok-add_units.ensures.gathers rs (take i rs) (
            i,
            c.loop-reference-test.true,
            sym c.reference-item.is,
          ) c.loop-reference.invariant.gathers);
    }

pub returns-clause-hints : goal.returns-clause-hints
returns-clause-hints c =
    let f = c.args.sources.now in
    let rs = c.args.references.now in
    let g =
    subst (λ x. Gathers f.store.now.slots f.names.now f.units.now
    f.engine.now.trail c.args.stamp c.args.references.now x [] c.loop-reference.stamps
    c.loop-reference.hints.items)
    (take_all c.loop-reference.reference-index rs c.loop-reference-test.false)
    c.loop-reference.invariant.gathers in
    hints_are f.store.now.slots f.names.now f.units.now f.engine.now.trail
    c.args.stamp rs c.loop-reference.stamps c.loop-reference.hints.items
    c.add_named.new.hints.items g c.in_ok-add_named.ensures

pub add_units-requires-clause-tables : goal.add_units-requires-clause-tables
add_units-requires-clause-tables c =
    let t = c.requires.tables in
    record {
      fits = t.fits;
      named = t.named;
      units = t.units;
      stamps = c.loop-reference.auto.stamps ∙ t.stamps;
    }

pub add_units-requires-clause-past : goal.add_units-requires-clause-past
add_units-requires-clause-past c = c.loop-reference.invariant.past

pub add_units-requires-clause-attached : goal.add_units-requires-clause-attached
add_units-requires-clause-attached c =
    subst (λ r. is_attached c.args.sources.now.engine.now r ≡ true) (sym c.reference-item.is)
    (c.requires.attached c.loop-reference.reference-index c.reference-item.result
    c.loop-reference-test.true)

pub add_units-requires-clause-noted : goal.add_units-requires-clause-noted
add_units-requires-clause-noted c =
    let f = c.args.sources.now in
    some_holds (clause_at f.store.now.slots c.reference-item.result)
    (IsNotedIn f.store.now.slots f.units.now f.engine.now.trail)
    (c.requires.noted c.reference-item.result (
      c.loop-reference.reference-index,
      c.loop-reference-test.true,
      sym c.reference-item.is,
    ))

pub returns-in_err-add_units-clause-long : goal.returns-in_err-add_units-clause-long
returns-in_err-add_units-clause-long c =
    c.add_units.auto.stamps ∙ c.loop-reference.auto.stamps

pub returns-in_err-add_named-clause-past : goal.returns-in_err-add_named-clause-past
returns-in_err-add_named-clause-past c = c.loop-reference.invariant.past

pub returns-clause-past : goal.returns-clause-past
returns-clause-past c = c.loop-reference.invariant.past

pub add_named-requires : goal.add_named-requires
add_named-requires c k d lt =
    let f = c.args.sources.now in
    let slots = f.store.now.slots in
    let on = c.requires.tables.fits.attached _ (c.requires.attached k d lt) in
    subst (λ n. get_or c.args.references.now k d < n) (sym c.requires.tables.named)
    (live_within slots _ on.0 on.1)
