use Rattle.std.proofs.Common.{sym, ◌∙◌}
use Rattle.propagate.proofs.Looking.{attached_within}
use Rattle.propagate.proofs.Subsets.{have_places}
use Rattle.propagate.proofs.engine.Engine.is_marked.Goals as goal

pub has_all-requires : goal.has_all-requires
has_all-requires c =
    have_places c.args.self.now.variables _ c.lits.result.now c.requires.room
    (attached_within c.args.self.now c.args.store.now.slots c.args.reference c.lits.result.now
    c.requires.fits (sym c.is_attached.ensures ∙ c.if-is_attached.true) c.lits.ensures)
