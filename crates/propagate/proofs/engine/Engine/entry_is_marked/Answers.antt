use Rattle.std.proofs.Common.{sym, ◌∙◌}
use Rattle.propagate.proofs.Subsets.{has_place, blocker_unmarked}
use Rattle.propagate.proofs.engine.Engine.entry_is_marked.Goals as goal

pub is_marked-requires : goal.is_marked-requires
is_marked-requires c =
    has_place c.args.self.now c.args.store.now.slots _ c.args.entry c.requires.fits c.requires.room
    c.requires.blocker

pub returns-else-is_marked-clause-none : goal.returns-else-is_marked-clause-none
returns-else-is_marked-clause-none c = λ e.
    blocker_unmarked c.args.self.now c.args.store.now.slots c.args.marks.now c.args.entry
    c.requires.blocker (sym c.is_marked.ensures ∙ e)
