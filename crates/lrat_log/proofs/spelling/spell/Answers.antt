-- The digits end before the space, and the dash is written before them.
use Rattle.std.proofs.Common.{◌≡◌, ◌≤◌, length, arith}
use Rattle.std.specs.Fmt.{decimal}
use Rattle.std.proofs.lemmas.Fmt.{length-decimal-le}
use Rattle.lrat_log.proofs.LineTexts.{digits_spelled, dash_spelled}
use Rattle.lrat_log.proofs.spelling.spell.Goals as goal

pub write_digits-start-requires : goal.write_digits-start-requires
write_digits-start-requires c =
    let digits : length (decimal c.args.number) ≤ 20 =
    length-decimal-le 20 c.args.number (omega arith) (omega arith) (omega arith) in
    (omega arith, omega arith)

pub overflow_sub-room : goal.overflow_sub-room
overflow_sub-room c =
    let digits : length (decimal c.args.number) ≤ 20 =
    length-decimal-le 20 c.args.number (omega arith) (omega arith) (omega arith) in
    omega arith

pub overflow_sub-result : goal.overflow_sub-result
overflow_sub-result c =
    let digits : length (decimal c.args.number) ≤ 20 =
    length-decimal-le 20 c.args.number (omega arith) (omega arith) (omega arith) in
    omega arith

pub returns-then-not-negative-clause-text : goal.returns-then-not-negative-clause-text
returns-then-not-negative-clause-text c =
    rw c.if-not-negative.true (digits_spelled c.args.room.now c.write_digits-start.new.buf _ _
    c.told-room c.requires c.write_digits-start.ensures.written)

pub returns-clause-text : goal.returns-clause-text
returns-clause-text c =
    let digits : length (decimal c.args.number) ≤ 20 =
    length-decimal-le 20 c.args.number (omega arith) (omega arith) (omega arith) in
    let same : length c.write_digits-start.new.buf ≡ length c.args.room.now =
    c.write_digits-start.auto.buf in
    rw c.if-not-negative.false (dash_spelled c.args.room.now c.write_digits-start.new.buf _ _
    c.told-room c.requires c.write_digits-start.ensures.written (omega arith) (omega arith))
