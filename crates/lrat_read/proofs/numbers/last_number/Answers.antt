use Rattle.std.proofs.Common.{◌≡◌, ◌&&◌, ◌∙◌, drop, ne_eqb}
use Rattle.std.specs.Prelude.{◌==◌}
use Rattle.text.specs.Text.{tokens_of}
use Rattle.lrat_read.proofs.Ends.{done_at, is_done, number_last, zero_and, zero_not}
use Rattle.lrat_read.proofs.numbers.last_number.Goals as goal
use Rattle.lrat_read.proofs.numbers.last_number.Goals.{then-zero-eq0, else-zero-eq0}

pub returns-clause-number : goal.returns-clause-number
returns-clause-number c =
    let line = c.args.line.now in
    let number = c.in_ok-number.number in
    let zero = c.in_ok-zero.zero in
    let first = c.in_ok-number.ensures in
    let second = c.in_ok-zero.ensures in
    let rest = tokens_of (drop zero.end line) in
    let is_last = c.if-zero-eq0.is_last in
    let last : is_last ≡ ((zero.value == 0) && is_done rest) = elim c.if-zero-eq0.branch [
      | then-zero-eq0 w ↦ zero_and zero.value is_last _ w.if-zero-eq0.true
          (w.is_last-is ∙ done_at line w.skip_blanks.result zero.end w.skip_blanks.ensures.tokens
          w.skip_blanks.ensures.within w.skip_blanks.ensures.stops)
      | else-zero-eq0 w ↦ zero_not zero.value is_last _ w.if-zero-eq0.false
          (w.is_last-is ∙ ne_eqb zero.value 0 w.if-zero-eq0.false)
    ] in
    c.then_some.ensures
    ∙ number_last (tokens_of (drop c.args.at line)) (tokens_of (drop number.end line))
    rest first.0 second.0 number.value zero.value
    is_last first.1 second.1 first.2 second.2 last
