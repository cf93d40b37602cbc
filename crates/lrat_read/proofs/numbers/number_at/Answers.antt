use Rattle.std.proofs.Common.{arith, ◌+◌, ap}
use Rattle.std.proofs.lemmas.Bool.{both_ways}
use Rattle.lrat_read.proofs.Places.{number_found, number_past, number_missing}
use Rattle.lrat_read.proofs.numbers.number_at.Goals as goal

pub returns-then-is_number : goal.returns-then-is_number
returns-then-is_number c =
    number_past c.args.line.now c.args.at _ c.digits_at-digits.result.value
    c.digits_at-digits.result.end c.skip_blanks-end.result
    (number_found c.args.line.now c.args.at c.skip_blanks-first.result _ c.digits_at-digits.result
    c.skip_blanks-first.ensures.tokens c.skip_blanks-first.ensures.from (omega arith)
    (c.skip_blanks-first.ensures.stops (omega arith))
    (ap (λ n. c.skip_blanks-first.result + n) c.from.ensures) c.digits_at-digits.ensures
    (c.is_number.ensures.0 c.if-is_number.true))
    c.skip_blanks-end.ensures.tokens c.skip_blanks-end.ensures.from c.skip_blanks-end.ensures.within

pub returns-else-is_number : goal.returns-else-is_number
returns-else-is_number c =
    number_missing c.args.line.now c.args.at c.skip_blanks-first.result _ c.digits_at-digits.result
    c.skip_blanks-first.ensures.tokens (omega arith)
    (c.skip_blanks-first.ensures.stops (omega arith))
    (ap (λ n. c.skip_blanks-first.result + n) c.from.ensures) c.digits_at-digits.ensures
    (λ w. both_ways _ c.if-is_number.false (c.is_number.ensures.1 w))
