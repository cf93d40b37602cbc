use Rattle.std.proofs.Common.{◌≡◌, ◌<◌, ◌∙◌, sym, refl, ap, subst, length, map, arith}
use Rattle.std.specs.Prelude.{All}
use Rattle.std.specs.List.Sorted.{IsStrictlyIncreasing}
use Rattle.std.specs.Vec.{with_items}
use Rattle.std.proofs.lemmas.List.{with_items_is}
use Rattle.clauses.specs.Slots.{Renaming}
use Rattle.cdcl_search.specs.declared.search.Search.{Search}
use Rattle.cdcl_search.specs.Moves.{NamesMoved, UnitsMoved}
use Rattle.cdcl_search.proofs.Compacted.{moved_within, new_within, places_few, runs_compacted}
use Rattle.cdcl_search.proofs.search.Search.compact.Goals as goal

pub move_names-requires-clause-old_within : goal.move_names-requires-clause-old_within
move_names-requires-clause-old_within c =
    let s = c.args.self.now in
    let below =
    subst (λ (ms : Renaming). All (λ m. m.0 < length s.store.slots) ms)
    (sym c.pairs.ensures.pairs)
    (moved_within s.store.slots c.compact.new.store.slots c.in_ok-moves.moves
    c.in_ok-moves.ensures.moves) in
    λ i d lt. omega (arith, below i d lt, c.requires.named)

pub move_names-requires-clause-new_within : goal.move_names-requires-clause-new_within
move_names-requires-clause-new_within c =
    let s = c.args.self.now in
    let below = subst (λ (ms : Renaming). All (λ m. m.1 < length c.compact.new.store.slots) ms)
    (sym c.pairs.ensures.pairs)
    (new_within s.store.slots c.compact.new.store.slots c.in_ok-moves.moves
    c.in_ok-moves.ensures.moves) in
    λ i d lt. omega (arith, below i d lt, c.places.ensures)

pub move_names-requires-clause-fewer : goal.move_names-requires-clause-fewer
move_names-requires-clause-fewer c =
    omega (
      arith,
      c.places.ensures,
      c.requires.named,
      places_few c.args.self.now.store.slots c.compact.new.store.slots
          c.in_ok-moves.ensures.together,
    )

pub returns-clause-runs : goal.returns-clause-runs
returns-clause-runs c p ls r =
    let s = c.args.self.now in
    let ms = c.in_ok-moves.moves in
    let old = s.store.slots in
    let new = c.compact.new.store.slots in
    let m = c.in_ok-moves.ensures in
    let units = with_items s.units c.move_units.new.units in
    let n : Search =
    record s {
      store = c.compact.new.store;
      engine = c.compact.new.self;
      names = c.move_names.new.names;
      units = units;
      policy = c.rename.new.self;
    } in
    let items : units.items ≡ c.move_units.new.units =
    with_items_is s.units c.move_units.new.units
    (omega (arith, c.move_units.ensures.long, c.deref_mut.ensures.len)) in
    let rises =
    subst (λ (xs : Renaming). IsStrictlyIncreasing (map (λ x. x.0) xs)) c.pairs.ensures.pairs
    c.pairs.ensures.old_rise in
    let along =
    subst (λ (xs : Renaming). NamesMoved s.names.items c.move_names.new.names.items xs)
    c.pairs.ensures.pairs c.move_names.ensures.moved in
    let moved =
    subst (λ us. UnitsMoved s.units.items us ms) (sym items)
    (subst (λ us. UnitsMoved us c.move_units.new.units ms) c.deref_mut.ensures.value
    c.move_units.ensures.moved) in
    runs_compacted s n ms p ls m.moves m.together rises m.attached m.trail c.compact.ensures.frame
    c.compact.ensures.fits (c.move_names.ensures.long ∙ c.places.ensures) along
    (ap length items ∙ c.move_units.ensures.long ∙ ap length c.deref_mut.ensures.value) moved (
      refl,
      refl,
      refl,
      refl,
      c.rename.ensures.same_view,
      refl,
    ) r
