-- Place after place is attached.
use Rattle.std.proofs.Common.{sym, subst}
use Rattle.cdcl_search.specs.Starts.{AreWithin}
use Rattle.cdcl_search.proofs.Started.{attached_none}
use Rattle.cdcl_search.proofs.starting.engine_of.Goals as goal

pub loop-place-init : goal.loop-place-init
loop-place-init c =
    attached_none c.in_ok-engine.engine c.args.store.now.slots c.args.variables
    (c.in_ok-engine.ensures.fits c.args.store.now.slots) c.in_ok-engine.ensures.empty
    c.in_ok-engine.ensures.unattached

pub attach_at-requires-clause-within : goal.attach_at-requires-clause-within
attach_at-requires-clause-within c =
    subst (AreWithin c.args.store.now.slots) (sym c.loop-place.invariant.variables_are) c.requires
