use Rattle.std.proofs.Common.{arith, ◌≡◌, ◌+◌, ◌-◌, ◌*◌, ◌<◌, ◌^◌, get_or, slice_range, sym, ◌∙◌}
use Rattle.text.specs.Text.{value_on}
use Rattle.lrat_read.proofs.Scan.{digits_room, digits_step}
use Rattle.lrat_read.proofs.numbers.digits_at.Goals as goal

pub overflow_mul-value : goal.overflow_mul-value
overflow_mul-value c =
    let room : c.loop-end.value < 10 ^ 18 =
    digits_room c.args.line.now c.args.start c.loop-end.end c.loop-end.value
    c.loop-end.invariant.from (omega arith) (omega arith) c.loop-end.invariant.digits
    c.loop-end.invariant.value in
    omega arith

pub overflow_add-value : goal.overflow_add-value
overflow_add-value c =
    let room : c.loop-end.value < 10 ^ 18 =
    digits_room c.args.line.now c.args.start c.loop-end.end c.loop-end.value
    c.loop-end.invariant.from (omega arith) (omega arith) c.loop-end.invariant.digits
    c.loop-end.invariant.value in
    omega arith

pub loop-end-preserved : goal.loop-end-preserved
loop-end-preserved c =
    let step = digits_step c.args.line.now c.args.start c.loop-end.end c.loop-end.invariant.from
    (omega arith) c.if-byte-lt48.false c.if-byte-gt57.false c.loop-end.invariant.digits in
    let old : c.loop-end.value ≡ value_on 0
    (slice_range c.args.line.now c.args.start c.loop-end.end) = c.loop-end.invariant.value in
    let new : 10 * c.loop-end.value + c.from.result ≡ 10 * value_on 0
    (slice_range c.args.line.now c.args.start c.loop-end.end)
    + (get_or c.args.line.now c.loop-end.end 0 - 48) = omega (arith, old, c.from.ensures) in
    record {
      from = omega arith;
      within = omega arith;
      short = c.loop-end.invariant.short;
      in_line = c.loop-end.invariant.in_line;
      digits = step.0;
      value = new ∙ sym step.1;
    }
