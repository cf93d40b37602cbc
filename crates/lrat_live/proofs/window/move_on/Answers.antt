use Rattle.std.proofs.Common.{◌≡◌, ◌+◌, ◌<◌, ◌∷◌, [], ◌++◌, ◌∙◌, true, length, get_or, drop}
use Rattle.std.proofs.Common.{refl, sym, ap, subst, arith, length-set}
use Rattle.lrat_live.specs.Listed.{IsRising}
use Rattle.lrat_live.specs.Near.{is_live, literals_at, spanned}
use Rattle.lrat_live.specs.declared.spans.LiveSpan.{LiveSpan}
use Rattle.lrat_live.specs.declared.spans.TheConstants.{DEAD}
use Rattle.lrat_live.proofs.SpanLaws.{zeros, spread_set}
use Rattle.lrat_live.proofs.WindowLaws.{below_later, first_live, moved_one, none_out, none_dead}
use Rattle.lrat_live.proofs.WindowLaws.{within_set}
use Rattle.lrat_live.proofs.window.move_on.Goals as goal

pub loop-place-preserved-then-not-is_live : goal.loop-place-preserved-then-not-is_live
loop-place-preserved-then-not-is_live c =
    let inv = c.loop-place.invariant in
    record {
      all = inv.all;
      none =
          none_dead c.args.lits.now c.args.first c.loop-place.spans c.loop-place.place zeros
          (omega arith) inv.none (sym c.is_live.ensures ∙ c.if-not-is_live.true);
      spread = inv.spread;
      count = inv.count;
      within = inv.within;
    }

pub add-requires : goal.add-requires
add-requires c =
    let inv = c.loop-place.invariant in
    let ls = c.args.lits.now in
    let ss = c.loop-place.spans in
    let i = c.loop-place.place in
    let far = c.loop-place.far in
    let live : is_live (get_or ss i zeros) ≡ true =
    sym c.is_live.ensures ∙ c.if-not-is_live.false in
    let all =
    ap (λ es. far ++ es)
    (sym (first_live ls c.args.first ss i zeros (omega arith) inv.none live)) ∙ inv.all in
    record {
      rising =
          below_later far (spanned ls (c.args.first + i + 1) (drop (i + 1) ss))
          (c.args.first + i, literals_at ls (get_or ss i zeros))
          (subst IsRising (sym all) c.requires.rising);
    }

pub loop-place-preserved : goal.loop-place-preserved
loop-place-preserved c =
    let inv = c.loop-place.invariant in
    let ls = c.args.lits.now in
    let ss = c.loop-place.spans in
    let i = c.loop-place.place in
    let far = c.loop-place.far in
    let x : LiveSpan = record { start = DEAD; length = (get_or ss i zeros).length } in
    let h : i < length ss = omega arith in
    let live : is_live (get_or ss i zeros) ≡ true =
    sym c.is_live.ensures ∙ c.if-not-is_live.false in
    let one : c.add.new.self ≡ far ++ (c.args.first + i, literals_at ls (get_or ss i zeros)) ∷ [] =
    c.in_ok-add.ensures.ok ∙ ap (λ l. far ++ (c.args.first + i, l) ∷ []) c.literals_at.ensures in
    record {
      all =
          moved_one ls c.args.first ss i zeros h inv.none far c.add.new.self x live refl one
          ∙ inv.all;
      none = none_out ls c.args.first ss i zeros h inv.none x refl;
      spread = λ from to a. spread_set from ss to i x refl (inv.spread from to a);
      count = length-set ss i x ∙ inv.count;
      within = within_set ss (length ls) i x refl inv.within;
    }
