use Rattle.std.proofs.Common.{◌≡◌, ◌<◌, List, Some, length, get_or, sym, ap, ◌∙◌, arith}
use Rattle.cnf.specs.Literal.{Literal}
use Rattle.std.proofs.lemmas.List.{length-map}
use Rattle.propagate_trail.specs.Trail.{Assigned, literals_of, level_in, depth_of}
use Rattle.propagate_trail.proofs.Laws.{past_kept}
use Rattle.propagate.proofs.Searches.{level_from_test}
use Rattle.propagate.proofs.Fitting.{fits_settled}
use Rattle.propagate.proofs.engine.Engine.promote.Goals as goal

pub level-requires : goal.level-requires
level-requires c =
    let T = c.self.inside.trail.assigned in
    let long : length c.literals.result.now ≡ length T = ap length c.literals.ensures.literals
    ∙ length-map T (λ (a : Assigned). a.literal) in
    let w = c.literals.ensures.within c.self.inside.stable_qhead c.index-literals-self.result
    (omega (arith, c.self.invariant.qhead)) in
    omega (arith, w.1, ap (λ (l : Literal). l.variable) c.index-literals-self.is)

pub returns-then-eq-clause-fits : goal.returns-then-eq-clause-fits
returns-then-eq-clause-fits c = λ slots.
    let T = c.self.inside.trail.assigned in
    let s = c.self.inside.stable_qhead in
    let d = c.index-literals-self.result in
    let lt : s < length T = omega (arith, c.self.invariant.qhead) in
    let at : d ≡ get_or (literals_of T) s d = c.index-literals-self.is
    ∙ ap (λ (X : List Literal). get_or X s d) c.literals.ensures.literals in
    let e : level_in T (get_or (literals_of T) s d).variable ≡ Some (depth_of T) =
    ap (λ (l : Literal). level_in T l.variable) (sym at)
    ∙ ap (level_in T) (sym c.variable.ensures.variable) ∙ sym c.level.ensures
    ∙ level_from_test c.level.result c.depth.result c.eq.result c.eq.ensures c.if-eq.true
    ∙ ap Some c.depth.ensures in
    rw (← c.self.view_is) (λ fits. fits_settled _ slots c.self.invariant.stable_qhead
    (λ to below. past_kept to T s d lt e below) fits)
