-- Each clause that is found is one more.
use Rattle.std.proofs.Common.{◌+◌, rules, slice_index_or, arith}
use Rattle.eliminate_pairs.proofs.Meetings.{one_more, some_of}
use Rattle.eliminate_pairs.proofs.standing.stand_often.Goals as goal
use Rattle.eliminate_pairs.proofs.standing.stand_often.Goals.{
  then-place-from+then-stand_at+else-count-eq-FEWEST,
}
use Rattle.eliminate_pairs.proofs.standing.stand_often.Goals.{else-place-from}

pub returns-then-count-eq-FEWEST : goal.returns-then-count-eq-FEWEST
returns-then-count-eq-FEWEST c _ =
    let a = c.args.pair.now.left in
    let b = c.args.pair.now.right in
    let slots = c.args.store.now.slots in
    let place = (slice_index_or c.args.found.now c.loop-place.place-index (0, 0)).0 in
    record {
      two = search rules;
      many = omega (
        arith,
        c.loop-place.invariant.1,
        c.if-count-eq-FEWEST.true,
        one_more a b slots c.loop-place.from place c.if-place-from.true (search rules),
        some_of a b slots (place + 1),
      );
    }

pub loop-place-preserved : goal.loop-place-preserved
loop-place-preserved c =
    let a = c.args.pair.now.left in
    let b = c.args.pair.now.right in
    let slots = c.args.store.now.slots in
    let place = (slice_index_or c.args.found.now c.loop-place.place-index (0, 0)).0 in
    elim c.if-place-from.branch [
      | then-place-from+then-stand_at+else-count-eq-FEWEST w ↦
          let more =
          one_more a b slots c.loop-place.from place w.if-place-from.true (search rules) in
          rw (w.count-is, w.from-is) (
            omega (arith, c.loop-place.invariant.0, w.if-count-eq-FEWEST.false),
            omega (arith, c.loop-place.invariant.1, more),
          )
      | else-place-from w ↦ rw (w.count-is, w.from-is) c.loop-place.invariant
    ]
