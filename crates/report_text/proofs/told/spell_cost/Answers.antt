-- The digits end before the line feed, and the letter and the space are written before them.
use Rattle.std.proofs.Common.{◌≡◌, length, arith}
use Rattle.report_text.proofs.CostLines.{cost_digits, cost_spelled}
use Rattle.report_text.proofs.told.spell_cost.Goals as goal

pub write_digits-digits-requires : goal.write_digits-digits-requires
write_digits-digits-requires c =
    let most = cost_digits c.args.cost (omega arith) in (omega (arith, most), omega (arith, most))

pub overflow_sub-room : goal.overflow_sub-room
overflow_sub-room c = omega (arith, cost_digits c.args.cost (omega arith))

pub overflow_sub-room-2 : goal.overflow_sub-room-2
overflow_sub-room-2 c = omega (arith, cost_digits c.args.cost (omega arith))

pub overflow_sub-result : goal.overflow_sub-result
overflow_sub-result c = omega (arith, cost_digits c.args.cost (omega arith))

pub returns-clause-text : goal.returns-clause-text
returns-clause-text c =
    let most = cost_digits c.args.cost (omega arith) in
    let same : length c.write_digits-digits.new.buf ≡ length c.args.room.now =
    c.write_digits-digits.auto.buf in
    cost_spelled c.args.room.now c.write_digits-digits.new.buf c.write_digits-digits.result
    c.args.cost (omega arith) c.requires (omega arith) (omega (arith, most)) (omega (arith, most))
    c.write_digits-digits.ensures.written
