use Rattle.std.proofs.Common.{◌+◌, ◌≤◌, ◌<◌, length, rules}
use Rattle.clauses.specs.Heads.{slots_of}
use Rattle.clauses.specs.Slots.{IsLive}
use Rattle.cnf.proofs.Laws.{laid_within}
use Rattle.clauses.proofs.Flat.{heads}
use Rattle.clauses.proofs.Reading.{no_head, span_at}
use Rattle.clauses.proofs.Stored.{live_within, live_clause}
use Rattle.clauses.proofs.store.Store.lits.Goals as goal
use Rattle.clauses.proofs.store.Store.lits.Goals.{After-reference}

live : (c : After-reference) → IsLive (slots_of c.self.inside.literals.items c.self.inside.heads)
    c.reference.inside.place
live c = rw (← c.self.view_is, ← c.reference.view_is) at c.requires

within : (c : After-reference) → c.reference.inside.place < length c.self.inside.heads
within c = live_within c.self.inside.literals.items _ _ (live c)

pub span-span-requires : goal.span-span-requires
span-span-requires c = within (goal.at.span-span-requires c).After-reference

pub slice_bounds-result-end : goal.slice_bounds-result-end
slice_bounds-result-end c =
    let h = within (goal.at.slice_bounds-result-end c).After-reference in
    let here =
    laid_within heads 0 _ c.self.inside.heads c.reference.inside.place no_head
    c.self.invariant.laid h in
    let ends : c.span-span.result.start + c.span-span.result.length
    ≤ length c.self.inside.literals.items = rw (span_at _ _ _ h c.span-span.ensures) here in
    let same = c.deref.ensures.value in
    search rules

pub returns : goal.returns
returns c =
    let at = (goal.at.returns c).After-reference in
    rw (c.deref.ensures.value, ← c.self.view_is, ← c.reference.view_is)
    (live_clause c.self.inside.literals.items c.self.inside.heads c.reference.inside.place
    c.span-span.result (live at) (span_at _ _ _ (within at) c.span-span.ensures))
