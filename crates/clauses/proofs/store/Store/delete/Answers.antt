use Rattle.std.proofs.Common.{◌≡◌, ◌<◌, length, get_or, false, refl}
use Rattle.std.specs.Prelude.{slice_set}
use Rattle.std.proofs.lemmas.Option.{slice_get-get_or}
use Rattle.clauses.specs.Heads.{slots_of}
use Rattle.clauses.specs.Slots.{IsLive}
use Rattle.clauses.proofs.Reading.{no_head}
use Rattle.clauses.proofs.Stored.{live_within, state_deleted, store_deleted}
use Rattle.clauses.proofs.store.Store.delete.Goals as goal
use Rattle.clauses.proofs.store.Store.delete.Goals.{After-reference, After-kill}

within : (c : After-reference) → c.reference.inside.place < length c.self.inside.heads
within c =
    let live : IsLive (slots_of c.self.inside.literals.items c.self.inside.heads)
    c.reference.inside.place = rw (← c.self.view_is, ← c.reference.view_is) at c.requires in
    live_within c.self.inside.literals.items _ _ live

pub kill-requires : goal.kill-requires
kill-requires c = within (goal.at.kill-requires c).After-reference

killed : (c : After-kill) → c.reference.inside.place < length c.self.inside.heads
    → c.kill.new.self ≡ slice_set c.self.inside.heads c.reference.inside.place
    (record (get_or c.self.inside.heads c.reference.inside.place no_head) { live = false })
killed c h =
    c.kill.ensures _ (slice_get-get_or c.self.inside.heads c.reference.inside.place no_head h)

pub invariant_of-self : goal.invariant_of-self
invariant_of-self c =
    rw (killed (goal.at.invariant_of-self c).After-kill
    (within (goal.at.invariant_of-self c).After-reference))
    (store_deleted c.self.inside.literals.items c.self.inside.heads c.reference.inside.place _
    no_head c.self.invariant refl refl)

pub returns : goal.returns
returns c = rw (
  killed (goal.at.returns c).After-kill (within (goal.at.returns c).After-reference),
  ← c.self.view_is,
  ← c.reference.view_is,
)
    (state_deleted c.self.inside.literals.items c.self.inside.heads _ _ refl)
