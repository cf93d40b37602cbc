-- A clause more.
use Rattle.std.proofs.Common.{◌<◌, Some, length, sym, ap, ◌∙◌, arith, rules}
use Rattle.contradiction.proofs.Places.{split_more, within_more}
use Rattle.contradiction.proofs.trials.are_same.Goals as goal

pub loop-place-preserved : goal.loop-place-preserved
loop-place-preserved c =
    let i = c.loop-place.place-index in
    let here : i < length c.args.places.now = search rules in
    let same = c.is_same.ensures c.if-not-is_same.false in
    record {
      split = split_more c.args.part.now c.loop-place.rest c.next.new.self c.args.hard.now
          c.args.places.now i c.in-Some.clause.now here
          (c.get.ensures ∙ ap (λ x. Some x) (sym same))
          c.loop-place.invariant.split c.in-Some.ensures.steps;
      within = within_more (length c.args.hard.now) c.args.places.now i here
          c.loop-place.invariant.within (omega (arith, c.len.ensures));
    }
