use Rattle.std.proofs.Common.{sym, subst, arith}
use Rattle.propagate_trail.specs.Trail.{TrailState}
use Rattle.propagate.specs.Watches.{engine_state}
use Rattle.propagate.specs.Fits.{Fits}
use Rattle.propagate.proofs.Fitting.{fits_backtrack}
use Rattle.propagate.proofs.engine.Engine.backtrack.Goals as goal

pub returns-clause-fits : goal.returns-clause-fits
returns-clause-fits c = λ slots fits.
    let i = c.self.inside in
    let m = c.min-self-inside.result in
    let e = engine_state i.trail i.table i.pool i.waiting.items i.stable_qhead i.qhead i.failed in
    let fits' : Fits e slots =
    subst (λ x. Fits x slots) (sym c.self.view_is) (c.promote.ensures.fits slots fits) in
    subst (λ (t : TrailState). Fits (engine_state t i.table i.pool i.waiting.items m m i.failed)
    slots) (sym c.backtrack.ensures)
    (fits_backtrack e slots c.args.level m (omega (arith, c.min-self-inside.ensures)) fits')
