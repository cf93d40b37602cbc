-- No literal at first, a literal more, and the 0 that ends the block.
use Rattle.std.proofs.Common.{arith, ◌<◌, length, refl}
use Rattle.lrat_read.proofs.PlainLoops.{lits_none, lits_next, lits_end, kept_set}
use Rattle.lrat_read.proofs.plain.plain_lits.Goals as goal

pub loop-number-init : goal.loop-number-init
loop-number-init c = record {
  within = c.requires.within;
  order = omega arith;
  few = omega arith;
  kept = (refl, refl);
  lits = lits_none c.args.line.now c.args.at c.args.lits.now c.args.from;
}

pub returns-else-number-clause-read : goal.returns-else-number-clause-read
returns-else-number-clause-read c =
    let inv = c.loop-number.invariant in
    let n = c.in_ok-number.number in
    let h = c.in_ok-number.ensures in
    let size = c.requires.room in
    lits_end c.args.line.now c.args.at c.loop-number.place c.loop-number.lits c.args.from
    c.loop-number.count n.is_dashed n.digits c.in_ok-place.place h.dash h.digits
    c.in_ok-place.ensures (omega arith) c.if-number.false inv.order
    (omega (arith, size, inv.kept, inv.order, inv.few, inv.within)) inv.lits

pub loop-number-preserved : goal.loop-number-preserved
loop-number-preserved c =
    let inv = c.loop-number.invariant in
    let n = c.in_ok-number.number in
    let h = c.in_ok-number.ensures in
    let d = h.digits in
    let some = d.nonempty in
    let past = c.in_ok-place.ensures in
    let size = c.requires.room in
    let room : c.loop-number.count < length c.loop-number.lits =
    omega (arith, size, inv.kept, inv.order, inv.few, past.within, past.behind, some) in
    record {
      within = past.within;
      order = omega (arith, inv.order);
      few = omega (arith, inv.order, inv.few, past.behind, some);
      kept = kept_set c.args.lits.now c.loop-number.lits c.args.from c.loop-number.count
          c.new.result inv.order inv.kept;
      lits = lits_next c.args.line.now c.args.at c.loop-number.place c.loop-number.lits c.args.from
          c.loop-number.count n.is_dashed n.digits c.in_ok-place.place c.new.result h.dash d past
          (omega arith) inv.order room c.new.ensures inv.lits;
    }
