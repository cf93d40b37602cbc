use Rattle.std.proofs.Common.{◌∙◌, ap, set, refl, sym, arith}
use Rattle.clauses.proofs.Laws.{zipped-set}
use Rattle.propagate_watches.specs.declared.table.Attachment.TheVariants as Attachment
use Rattle.propagate_watches.specs.declared.table.Tag.TheVariants.{Detached, Waiting, Satisfied}
use Rattle.propagate_watches.specs.declared.table.Tag.TheVariants.{Watching}
use Rattle.propagate_watches.specs.TableLayout.{attachment_of}
use Rattle.propagate_watches.proofs.Zipped.{place_within, attachments_set_tag}
use Rattle.propagate_watches.proofs.table.Table.set.Goals as goal

pub index_mut-requires : goal.index_mut-requires
index_mut-requires c = let i = c.self.inside in
    let at = place_within i.tags.items i.pairs.items c.args.self.now c.args.reference
    c.self.invariant c.self.view_is c.requires in
    omega (arith, at.0, i.tags.ok.0)

pub index_mut-requires-in-Waiting : goal.index_mut-requires-in-Waiting
index_mut-requires-in-Waiting c = let i = c.self.inside in
    let at = place_within i.tags.items i.pairs.items c.args.self.now c.args.reference
    c.self.invariant c.self.view_is c.requires in
    omega (arith, at.0, i.tags.ok.0)

pub index_mut-requires-in-Satisfied : goal.index_mut-requires-in-Satisfied
index_mut-requires-in-Satisfied c = let i = c.self.inside in
    let at = place_within i.tags.items i.pairs.items c.args.self.now c.args.reference
    c.self.invariant c.self.view_is c.requires in
    omega (arith, at.0, i.tags.ok.0)

pub index_mut-requires-in-Watching : goal.index_mut-requires-in-Watching
index_mut-requires-in-Watching c = let i = c.self.inside in
    let at = place_within i.tags.items i.pairs.items c.args.self.now c.args.reference
    c.self.invariant c.self.view_is c.requires in
    omega (arith, at.0, i.tags.ok.0)

pub index_mut-requires-in-Watching-2 : goal.index_mut-requires-in-Watching-2
index_mut-requires-in-Watching-2 c = let i = c.self.inside in
    let at = place_within i.tags.items i.pairs.items c.args.self.now c.args.reference
    c.self.invariant c.self.view_is c.requires in
    omega (arith, at.1, i.pairs.ok.0)

pub returns-in-Detached : goal.returns-in-Detached
returns-in-Detached c =
    attachments_set_tag _ _ _ c.args.reference Detached Attachment.Detached (λ p. refl)
    c.self.view_is ∙ ap (set c.args.self.now c.args.reference) (sym c.in-Detached.is)

pub returns-in-Waiting : goal.returns-in-Waiting
returns-in-Waiting c =
    attachments_set_tag _ _ _ c.args.reference Waiting Attachment.Waiting (λ p. refl)
    c.self.view_is ∙ ap (set c.args.self.now c.args.reference) (sym c.in-Waiting.is)

pub returns-in-Satisfied : goal.returns-in-Satisfied
returns-in-Satisfied c =
    attachments_set_tag _ _ _ c.args.reference Satisfied Attachment.Satisfied (λ p. refl)
    c.self.view_is ∙ ap (set c.args.self.now c.args.reference) (sym c.in-Satisfied.is)

pub returns-in-Watching : goal.returns-in-Watching
returns-in-Watching c =
    let i = c.self.inside in
    let one = c.in-Watching.one in
    let other = c.in-Watching.other in
    zipped-set attachment_of i.tags.items i.pairs.items c.args.reference Watching
    (record { one = one; other = other; rest = c.in-Watching.rest })
    ∙ ap (λ t. set t c.args.reference (Attachment.Watching one other c.in-Watching.rest))
    c.self.view_is ∙ ap (set c.args.self.now c.args.reference) (sym c.in-Watching.is)
