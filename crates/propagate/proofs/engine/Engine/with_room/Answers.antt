use Rattle.std.proofs.Common.{sym, subst}
use Rattle.propagate.specs.Fits.{Fits}
use Rattle.propagate.proofs.engine.Engine.with_room.Goals as goal

pub returns-clause-fits : goal.returns-clause-fits
returns-clause-fits c = λ slots. subst (λ e. Fits e slots) (sym c.make_rooms.ensures.unchanged)
    (c.in_ok-engine.ensures.fits slots)
