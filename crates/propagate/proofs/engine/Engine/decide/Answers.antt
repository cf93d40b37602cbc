use Rattle.std.proofs.Common.{◌≡◌, None, sym, ap, subst, ◌∙◌, arith}
use Rattle.propagate_trail.specs.Trail.{TrailState, value_in}
use Rattle.propagate.specs.Watches.{EngineState, engine_state}
use Rattle.propagate.specs.Fits.{Fits}
use Rattle.propagate_trail.proofs.Laws.{open_at, made}
use Rattle.propagate.proofs.Fitting.{fits_grow}
use Rattle.propagate.proofs.engine.Engine.decide.Goals as goal

pub returns-clause-fits : goal.returns-clause-fits
returns-clause-fits c = λ slots fits.
    let i = c.self.inside in
    let e = engine_state i.trail i.table i.pool i.waiting.items i.stable_qhead i.qhead i.failed in
    let fits' : Fits e slots =
    subst (λ x. Fits x slots) (sym c.self.view_is) (c.promote.ensures.fits slots fits) in
    let trail : i.trail.assigned ≡ c.args.self.now.trail =
    ap (λ (x : EngineState). x.trail) (c.self.view_is ∙ c.promote.ensures.shape) in
    let variables : i.trail.variables ≡ c.args.self.now.variables =
    ap (λ (x : EngineState). x.variables) (c.self.view_is ∙ c.promote.ensures.shape) in
    let is_open : value_in i.trail.assigned c.args.lit ≡ None =
    ap (λ T. value_in T c.args.lit) trail ∙ c.requires.open in
    subst (λ (t : TrailState). Fits (engine_state t i.table i.pool i.waiting.items i.stable_qhead
    i.qhead i.failed) slots) (sym c.push.ensures.pushed)
    (fits_grow e slots (made c.args.lit None) c.self.invariant.stable_qhead c.self.invariant.qhead
    (open_at _ _ is_open) tt (c.push.ensures.from_one, omega (arith, c.requires.small)) fits')
