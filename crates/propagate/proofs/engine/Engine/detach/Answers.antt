use Rattle.std.proofs.Common.{◌≡◌, ℕ, ◌<◌, true, length, Some, sym, ap, subst, ◌∙◌, arith, rules}
use Rattle.std.specs.Prelude.{All}
use Rattle.std.proofs.lemmas.Fn.{filter_same}
use Rattle.std.proofs.lemmas.List.{length-set}
use Rattle.propagate_watches.specs.declared.table.Attachment.TheVariants.{Detached, Waiting}
use Rattle.propagate_watches.specs.declared.table.Attachment.TheVariants.{Satisfied}
use Rattle.propagate_watches.specs.Table.{IsWatching, attachment_in}
use Rattle.propagate_watches.specs.Pool.{row_at}
use Rattle.propagate_trail.specs.Trail.{Assigned}
use Rattle.propagate.specs.Watches.{EngineState, IsVariable, engine_state, is_attached, watches_at}
use Rattle.propagate.specs.Fits.{Fits}
use Rattle.propagate_trail.proofs.Laws.{index-within}
use Rattle.propagate.proofs.Attaching.{fits_detach_watching, fits_detach_other, without}
use Rattle.propagate.proofs.Attaching.{without_kept, without_clause, kept_within, engine_set}
use Rattle.propagate.proofs.Attaching.{watching_is}
use Rattle.propagate.proofs.engine.Engine.detach.Goals as goal
use Rattle.propagate.proofs.engine.Engine.detach.Goals.{After-index-in-Watching}

-- the clause has its place, and is no reason, also in the engine as it lies
detaches : (e now : EngineState) (r : ℕ) → e ≡ now → is_attached now r ≡ true
    → All (λ (a : Assigned). a.reason ≡ Some r → ⊥) now.trail
    → (r < length e.watches.table) × All (λ (a : Assigned). a.reason ≡ Some r → ⊥) e.trail
detaches e now r is attached none = (
  kept_within e.watches.table r (ap (λ (x : EngineState). is_attached x r) is ∙ attached),
  subst (λ (x : EngineState). All (λ (a : Assigned). a.reason ≡ Some r → ⊥) x.trail) (sym is) none,
)

-- it watches two literals
module _ (c : After-index-in-Watching) where
  at : IsWatching (attachment_in c.self.inside.table c.args.reference) c.in-Watching.one
      c.in-Watching.other
  at =
      watching_is _ _ _ _ (ap (λ (x : EngineState). attachment_in x.watches.table c.args.reference)
      c.self.view_is ∙ sym c.attachment-attachment.ensures ∙ c.in-Watching.is)

  watched : IsVariable c.self.inside.trail.variables c.in-Watching.one
      × IsVariable c.self.inside.trail.variables c.in-Watching.other
  watched =
      (let w = c.self.invariant.watching c.args.reference c.in-Watching.one
      c.in-Watching.other at in
      (w.0, w.1))

pub returns-in-Waiting-clause-fits : goal.returns-in-Waiting-clause-fits
returns-in-Waiting-clause-fits c = λ slots fits.
    let i = c.self.inside in
    let r = c.args.reference in
    let e = engine_state i.trail i.table i.pool i.waiting.items i.stable_qhead i.qhead i.failed in
    let fits' : Fits e slots = subst (λ x. Fits x slots) (sym c.self.view_is) fits in
    let d = detaches e c.args.self.now r c.self.view_is c.requires.attached c.requires.no_reason in
    let at : attachment_in i.table r ≡ Waiting =
    ap (λ (x : EngineState). attachment_in x.watches.table r) c.self.view_is
    ∙ sym c.attachment-attachment.ensures ∙ c.in-Waiting.is in
    let kept : c.retain.new.self.items ≡ without r i.waiting.items =
    filter_same _ _ _ (λ x b f' k. search rules) _ _ c.retain.ensures.filtered in
    rw (c.set.ensures, c.index.ensures, kept)
    (fits_detach_other e slots r (without r i.waiting.items) d.0 d.1
    (λ k. ap (λ p. watches_at p k) at) (λ q ne h. without_kept r q i.waiting.items ne h) fits')

pub returns-in-Satisfied-clause-fits : goal.returns-in-Satisfied-clause-fits
returns-in-Satisfied-clause-fits c = λ slots fits.
    let i = c.self.inside in
    let r = c.args.reference in
    let e = engine_state i.trail i.table i.pool i.waiting.items i.stable_qhead i.qhead i.failed in
    let fits' : Fits e slots = subst (λ x. Fits x slots) (sym c.self.view_is) fits in
    let d = detaches e c.args.self.now r c.self.view_is c.requires.attached c.requires.no_reason in
    let at : attachment_in i.table r ≡ Satisfied =
    ap (λ (x : EngineState). attachment_in x.watches.table r) c.self.view_is
    ∙ sym c.attachment-attachment.ensures ∙ c.in-Satisfied.is in
    rw (c.set.ensures, c.index.ensures) (fits_detach_other e slots r i.waiting.items d.0 d.1
    (λ k. ap (λ p. watches_at p k) at) (λ q ne h. h) fits')

pub returns-in-Watching-clause-fits : goal.returns-in-Watching-clause-fits
returns-in-Watching-clause-fits c = λ slots fits.
    let i = c.self.inside in
    let r = c.args.reference in
    let e = engine_state i.trail i.table i.pool i.waiting.items i.stable_qhead i.qhead i.failed in
    let fits' : Fits e slots = subst (λ x. Fits x slots) (sym c.self.view_is) fits in
    let d = detaches e c.args.self.now r c.self.view_is c.requires.attached c.requires.no_reason in
    let k = (goal.at.returns-in-Watching-clause-fits c).After-index-in-Watching in
    let w = watched k in
    rw (
      c.set.ensures,
      c.index.ensures,
      c.remove-in-Watching.ensures,
      c.remove.ensures,
      c.index-in-Watching.ensures.index,
      c.index-in-Watching-2.ensures.index,
    )
    (fits_detach_watching e slots r c.in-Watching.one c.in-Watching.other c.self.invariant
    d.0 d.1 (at k)
    (omega (arith, c.self.invariant.rows, index-within e.variables c.in-Watching.one w.0))
    (omega (arith, c.self.invariant.rows, index-within e.variables c.in-Watching.other w.1))
    fits')

pub invariant_of-self-in-Watching : goal.invariant_of-self-in-Watching
invariant_of-self-in-Watching c =
    let i = c.self.inside in
    let r = c.args.reference in
    let e = engine_state i.trail i.table i.pool i.waiting.items i.stable_qhead i.qhead i.failed in
    let lt =
    (detaches e c.args.self.now r c.self.view_is c.requires.attached c.requires.no_reason).0 in
    let long : length c.remove-in-Watching.new.self ≡ length i.pool =
    ap length c.remove-in-Watching.ensures ∙ length-set _ _ _ ∙ ap length c.remove.ensures
    ∙ length-set _ _ _ in
    rw (c.set.ensures, c.index.ensures)
    (engine_set e r Detached c.remove-in-Watching.new.self i.waiting.items c.self.invariant long
    lt (λ one other at. absurd (cc)))

pub remove-requires : goal.remove-requires
remove-requires c =
    let i = c.self.inside in
    let w = watched (goal.at.remove-requires c).After-index-in-Watching in
    record {
      row = omega (
        arith,
        c.index-in-Watching.ensures.index,
        c.self.invariant.rows,
        index-within i.trail.variables c.in-Watching.one w.0,
      );
    }

pub remove-requires-in-Watching : goal.remove-requires-in-Watching
remove-requires-in-Watching c =
    let i = c.self.inside in
    let r = c.args.reference in
    let w = watched (goal.at.remove-requires-in-Watching c).After-index-in-Watching in
    record {
      row = omega (
        arith,
        c.index-in-Watching-2.ensures.index,
        c.self.invariant.rows,
        ap length c.remove.ensures,
        length-set i.pool c.index-in-Watching.result
            (without_clause r (row_at i.pool c.index-in-Watching.result)),
        index-within i.trail.variables c.in-Watching.other w.1,
      );
    }
