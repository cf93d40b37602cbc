use Rattle.std.proofs.Common.{◌≡◌, ◌∙◌, ap, subst, ℕ, Some, map, length, arith}
use Rattle.std.specs.Prelude.{IfSome}
use Rattle.std.specs.List.Sorted.{IsStrictlyIncreasing}
use Rattle.std.specs.Vec.{with_items}
use Rattle.std.proofs.lemmas.List.{with_items_is}
use Rattle.std.proofs.lemmas.List.Elements.{recursion_from_All}
use Rattle.clauses.specs.Slots.{Renaming, renamed}
use Rattle.clauses.specs.Moved.{named}
use Rattle.propagate_watches.specs.Renames.{IsMoved}
use Rattle.propagate_trail.specs.Trail.{Assigned, TrailState}
use Rattle.propagate.specs.Watches.{EngineState}
use Rattle.propagate_trail.specs.Renames.{named_trail}
use Rattle.propagate_trail.proofs.Laws.{trail_listed}
use Rattle.propagate.proofs.Renamed.{all_renamed}
use Rattle.propagate.proofs.engine.Engine.rename.Goals as goal

module _ (c : goal.After-rename-2) where
  long_waiting : length c.rename_references.new.references ≡ c.self.inside.waiting.len
  long_waiting = omega (arith, c.rename_references.auto.references, c.deref_mut.ensures.len)

  moved : IsMoved c.self.inside.table c.move_attachments.new.table c.args.moves.now
  moved =
      subst (λ (ms : Renaming). IsMoved c.self.inside.table c.move_attachments.new.table ms)
      c.pairs.ensures.pairs c.move_attachments.ensures

  waiting : (with_items c.self.inside.waiting c.rename_references.new.references).items
      ≡ map (named c.args.moves.now) c.self.inside.waiting.items
  waiting =
      with_items_is c.self.inside.waiting c.rename_references.new.references long_waiting
      ∙ c.rename_references.ensures ∙ ap (map (named c.args.moves.now)) c.deref_mut.ensures.value

pub returns-clause-attached : goal.returns-clause-attached
returns-clause-attached c =
    (all_renamed c.args.self.now c.args.moves.now c.self.inside.trail c.rename-2.new.self
    c.self.inside.table _ c.self.inside.pool c.rename.new.self c.self.inside.waiting.items _
    c.self.inside.stable_qhead c.self.inside.qhead c.self.inside.failed c.self.view_is
    c.rename-2.ensures c.rename.ensures (waiting c)
    (subst (λ (ms : Renaming). IsStrictlyIncreasing (map (λ m. m.0) ms)) c.pairs.ensures.pairs
    c.pairs.ensures.old_rise)
    (subst (λ (ms : Renaming). IsStrictlyIncreasing (map (λ m. m.1) ms)) c.pairs.ensures.pairs
    c.pairs.ensures.new_rise)
    (moved c) c.requires.listed).1

pub returns-clause-trail : goal.returns-clause-trail
returns-clause-trail c =
    ap (λ (t : TrailState). t.assigned) c.rename-2.ensures
    ∙ ap (λ (e : EngineState). named_trail c.args.moves.now e.trail) c.self.view_is
    ∙ trail_listed c.args.moves.now c.args.self.now.trail
    (recursion_from_All
    (λ (a : Assigned). IfSome a.reason (λ r. (q : ℕ) × (renamed c.args.moves.now r ≡ Some q)))
    c.args.self.now.trail c.requires.reasons)

pub returns-clause-fits : goal.returns-clause-fits
returns-clause-fits c =
    (all_renamed c.args.self.now c.args.moves.now c.self.inside.trail c.rename-2.new.self
    c.self.inside.table _ c.self.inside.pool c.rename.new.self c.self.inside.waiting.items _
    c.self.inside.stable_qhead c.self.inside.qhead c.self.inside.failed c.self.view_is
    c.rename-2.ensures c.rename.ensures (waiting c)
    (subst (λ (ms : Renaming). IsStrictlyIncreasing (map (λ m. m.0) ms)) c.pairs.ensures.pairs
    c.pairs.ensures.old_rise)
    (subst (λ (ms : Renaming). IsStrictlyIncreasing (map (λ m. m.1) ms)) c.pairs.ensures.pairs
    c.pairs.ensures.new_rise)
    (moved c) c.requires.listed).2
