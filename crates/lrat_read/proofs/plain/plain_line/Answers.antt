-- The number that leads the line.
use Rattle.std.proofs.Common.{false, sym}
use Rattle.lrat_read.proofs.PlainLaws.{plain_number, plain_undashed}
use Rattle.lrat_read.proofs.plain.plain_line.Goals as goal

pub plain_deletion-requires-clause-number : goal.plain_deletion-requires-clause-number
plain_deletion-requires-clause-number c =
    let line = c.args.line.now in
    let number = c.in_ok-number.number in
    plain_number line 0 false number c.in_ok-end.end
    (sym (plain_undashed line 0 number c.in_ok-number.ensures)) c.in_ok-number.ensures
    c.in_ok-end.ensures

pub plain_addition-requires-clause-number : goal.plain_addition-requires-clause-number
plain_addition-requires-clause-number c =
    let line = c.args.line.now in
    let number = c.in_ok-number.number in
    plain_number line 0 false number c.in_ok-end.end
    (sym (plain_undashed line 0 number c.in_ok-number.ensures)) c.in_ok-number.ensures
    c.in_ok-end.ensures
