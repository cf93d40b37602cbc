use Rattle.std.proofs.Common.{◌≡◌, ◌≢◌, ◌++◌, ◌∷◌, [], take, ◌⊎◌, inl, inr, sym, ◌∙◌, ap, subst}
use Rattle.std.proofs.Common.{rules}
use Rattle.std.proofs.lemmas.List.{take_all, take_more}
use Rattle.propagate_watches.specs.declared.table.Rest.TheVariants.{One}
use Rattle.propagate.specs.Fits.{IsRest}
use Rattle.propagate.proofs.Beside.{rest_same, rest_third}
use Rattle.propagate.proofs.not_false.gather_rest.Goals as goal
use Rattle.propagate.proofs.not_false.gather_rest.Goals.{then-eq-via-then-eq}
use Rattle.propagate.proofs.not_false.gather_rest.Goals.{then-eq-via-else-eq+then-eq-2}

pub loop-lit-preserved-then-eq : goal.loop-lit-preserved-then-eq
loop-lit-preserved-then-eq c =
    let x = c.lit-item.result in
    let same : (x ≡ c.args.one) ⊎ (x ≡ c.args.other) = elim c.then-eq.branch [
      | then-eq-via-then-eq w ↦ inl (search rules)
      | then-eq-via-else-eq+then-eq-2 w ↦ inr (search rules)
    ] in
    subst (λ k. IsRest k c.args.one c.args.other c.loop-lit.rest)
    (sym (take_more c.args.lits.now c.loop-lit.lit-index x c.loop-lit-test.true
    ∙ ap (λ y. take c.loop-lit.lit-index c.args.lits.now ++ y ∷ []) (sym c.lit-item.is)))
    (rest_same (take c.loop-lit.lit-index c.args.lits.now) c.args.one c.args.other x c.loop-lit.rest
    same c.loop-lit.invariant)

pub loop-lit-preserved : goal.loop-lit-preserved
loop-lit-preserved c =
    let x = c.lit-item.result in
    let a : x ≢ c.args.one = search rules in
    let b : x ≢ c.args.other = search rules in
    subst (λ k. IsRest k c.args.one c.args.other (One x))
    (sym (take_more c.args.lits.now c.loop-lit.lit-index x c.loop-lit-test.true
    ∙ ap (λ y. take c.loop-lit.lit-index c.args.lits.now ++ y ∷ []) (sym c.lit-item.is)))
    (rest_third (take c.loop-lit.lit-index c.args.lits.now) c.args.one c.args.other x a b
    (subst (IsRest (take c.loop-lit.lit-index c.args.lits.now) c.args.one c.args.other)
    c.in-Nothing.is c.loop-lit.invariant))

pub returns : goal.returns
returns c =
    subst (λ k. IsRest k c.args.one c.args.other c.loop-lit.rest)
    (take_all c.loop-lit.lit-index c.args.lits.now c.loop-lit-test.false) c.loop-lit.invariant
