use Rattle.std.proofs.Common.{◌≡◌, false, sym, subst}
use Rattle.std.specs.Prelude.{All, IfSome}
use Rattle.propagate_watches.specs.Doomed.{is_doomed}
use Rattle.propagate_trail.specs.Trail.{Assigned}
use Rattle.propagate.specs.Watches.{EngineState, engine_state}
use Rattle.propagate.specs.Fits.{Fits}
use Rattle.propagate.proofs.Sparing.{fits_spared}
use Rattle.propagate.proofs.engine.Engine.detach_all.Goals as goal

pub returns-clause-fits : goal.returns-clause-fits
returns-clause-fits c = λ slots fits.
    let i = c.self.inside in
    let doomed = c.args.doomed.now in
    let e = engine_state i.trail i.table i.pool i.waiting.items i.stable_qhead i.qhead i.failed in
    let fits' : Fits e slots = subst (λ x. Fits x slots) (sym c.self.view_is) fits in
    let none : All (λ (a : Assigned). IfSome a.reason (λ r. is_doomed doomed r ≡ false)) e.trail =
    subst (λ (x : EngineState). All
    (λ (a : Assigned). IfSome a.reason (λ r. is_doomed doomed r ≡ false)) x.trail)
    (sym c.self.view_is) c.requires.no_reason in
    rw (c.drop_doomed-3.ensures, c.drop_doomed-2.ensures)
    (fits_spared e slots doomed c.drop_doomed.new.self c.drop_doomed.ensures none fits')
