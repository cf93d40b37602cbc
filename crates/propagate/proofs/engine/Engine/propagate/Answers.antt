use Rattle.std.proofs.Common.{true, sym, subst}
use Rattle.propagate.specs.Watches.{EngineState}
use Rattle.propagate.specs.Fits.{Fits, GrowsByUnits}
use Rattle.propagate.proofs.Following.{follows, failed_fits, failed_grows}
use Rattle.propagate.proofs.engine.Engine.propagate.Goals as goal

pub returns-in-Ok-clause-grows : goal.returns-in-Ok-clause-grows
returns-in-Ok-clause-grows c =
    follows c.args.store.now.slots c.args.self.now c.propagate_all.new.self
    c.in-Ok.ensures.goes_on

pub returns-in-Err-clause-grows : goal.returns-in-Err-clause-grows
returns-in-Err-clause-grows c =
    let slots = c.args.store.now.slots in
    subst (λ e. GrowsByUnits slots c.args.self.now (record e { failed = true }))
    (sym c.self-2.view_is)
    (failed_grows slots c.args.self.now c.propagate_all.new.self
    (follows slots c.args.self.now c.propagate_all.new.self c.in-Err.ensures.goes_on))

pub returns-in-Err-clause-fits : goal.returns-in-Err-clause-fits
returns-in-Err-clause-fits c =
    let slots = c.args.store.now.slots in
    subst (λ (e : EngineState). Fits (record e { failed = true }) slots) (sym c.self-2.view_is)
    (failed_fits c.propagate_all.new.self slots c.in-Err.ensures.goes_on.fits)
