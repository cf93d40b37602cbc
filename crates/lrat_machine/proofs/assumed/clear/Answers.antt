use Rattle.std.proofs.Common.{◌≡◌, ◌<◌, ◌+◌, ◌-◌, ◌∷◌, [], ◌++◌, ap, subst, sym, ◌∙◌, take}
use Rattle.std.proofs.Common.{length}
use Rattle.std.proofs.Common.{arith}
use Rattle.std.proofs.lemmas.List.{take_all, take_more}
use Rattle.lrat_machine.specs.Assumed.{AreValues}
use Rattle.lrat_machine.proofs.AssumedLaws.{AreValues-undo}
use Rattle.lrat_machine.proofs.assumed.clear.Goals as goal

pub loop-left-init : goal.loop-left-init
loop-left-init c = record {
  from = c.requires.within;
  within = omega arith;
  table = λ n t. subst (AreValues c.args.values.now n)
      (sym (take_all (length c.args.trail.now) c.args.trail.now (omega arith))) t;
}

pub loop-left-preserved : goal.loop-left-preserved
loop-left-preserved c =
    let trail = c.args.trail.now in
    let k = c.loop-left.left - 1 in
    let l = c.index-trail-left.result in
    let inv = c.loop-left.invariant in
    let within : k < length trail = omega (arith, inv.within, c.loop-left-test.true) in
    let here : k + 1 ≡ c.loop-left.left = omega (arith, c.loop-left-test.true) in
    let split : take c.loop-left.left trail ≡ take k trail ++ l ∷ [] =
    ap (λ i. take i trail) (sym here) ∙ take_more trail k l within
    ∙ ap (λ x. take k trail ++ x ∷ []) (sym c.index-trail-left.is) in
    record {
      from = omega (arith, inv.from, c.loop-left-test.true);
      within = omega (arith, within);
      table = λ n t. rw c.index.ensures.index
          (AreValues-undo c.loop-left.values n (take c.loop-left.left trail) (take k trail) l
          (inv.table n t) split (omega (arith, c.index.ensures.within)));
    }

pub returns : goal.returns
returns c =
    let inv = c.loop-left.invariant in
    let same : c.loop-left.left ≡ c.args.len = omega (arith, inv.from, c.loop-left-test.false) in
    λ n t. subst (λ i. AreValues c.loop-left.values n (take i c.args.trail.now)) same
    (inv.table n t)
