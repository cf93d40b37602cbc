-- One more is forgotten.
use Rattle.std.proofs.Common.{◌∙◌, length-set, ap, arith, subst, sym}
use Rattle.std.proofs.lemmas.List.Elements.{All-set, recursion_from_All}
use Rattle.forms.specs.Forms.{without_multiplier}
use Rattle.forms.specs.Stamped.{IsStamped, numbered_at}
use Rattle.forms.specs.Within.{IsStampedWithin}
use Rattle.forms.proofs.Stamps.{later, forgotten}
use Rattle.forms.proofs.numbered.next_stamp.Goals as goal

pub loop-place-preserved : goal.loop-place-preserved
loop-place-preserved c =
    let i = c.loop-place.place in
    let inv = c.loop-place.invariant in
    let old = c.index_mut.result.now in
    let q = c.args.present in
    let step =
    forgotten q c.loop-place.numbered.items c.args.numbered.now.items i old c.forget.new.item
    (omega (arith, inv.long)) (omega (arith, inv.long)) inv.others inv.cleared inv.stamped
    (c.forget.ensures.cleared 1 q (omega arith)
    ∙ ap (λ x. without_multiplier (numbered_at q x)) c.index_mut.ensures.value)
    (c.forget.ensures.stamped 1) in
    record {
      long = length-set c.loop-place.numbered.items i c.forget.new.item ∙ inv.long;
      cleared = step.0;
      others = step.1;
      stamped = step.2;
      within =
          λ v t all.
          let before = inv.within v t all in
          All-set (IsStampedWithin v t) c.loop-place.numbered.items i c.forget.new.item
          (c.forget.ensures.within v t
          (subst (IsStampedWithin v t) (sym c.index_mut.ensures.value)
          (before i old (omega (arith, inv.long)))))
          before;
    }

pub returns-clause-cleared : goal.returns-clause-cleared
returns-clause-cleared c =
    later c.args.present c.args.numbered.now.items
    (recursion_from_All (IsStamped c.args.present) c.args.numbered.now.items c.requires)
