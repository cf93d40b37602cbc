use Rattle.std.proofs.Common.{◌≡◌, ◌-◌, ◌+◌, take, ◌++◌, ◌∷◌, [], ◌∙◌, ap, sym, refl, arith}
use Rattle.std.proofs.lemmas.List.{take_more}
use Rattle.propagate_trail.proofs.Undoing.{trail_back}
use Rattle.propagate_trail.proofs.trail.undo.Goals as goal

pub loop-at-preserved : goal.loop-at-preserved
loop-at-preserved c =
    let i = c.loop-at.invariant in
    let A = c.args.literals.now in
    let k = c.loop-at.at - 1 in
    let l = c.index-literals-at.result in
    let e : c.loop-at.at ≡ k + 1 = omega arith in
    let last : take c.loop-at.at A ≡ take k A ++ l ∷ [] = ap (λ m. take m A) e
    ∙ take_more A k l (omega (arith, i.1))
    ∙ ap (λ x. take k A ++ x ∷ []) (sym c.index-literals-at.is) in (
      omega arith,
      omega (arith, i.1),
      c.clear.ensures.reasons ∙ i.2,
      rw (c.clear.ensures.levels, c.clear.ensures.positions, c.clear.ensures.reasons)
          (trail_back c.args.variables _ _ _ _ c.loop-at.vardata.reasons _ _ l _ _ _ last
          c.set_value.ensures c.variable.ensures.variable refl i.3),
    )
