use Rattle.std.proofs.Common.{arith, not, ap, ◌∙◌}
use Rattle.std.proofs.lemmas.Bool.{both_ways}
use Rattle.lrat_read.proofs.Places.{letter_missing}
use Rattle.lrat_read.proofs.numbers.after_letter.Goals as goal
use Rattle.lrat_read.proofs.numbers.after_letter.Goals.{
  else-first-line-via-then-first-line+then-line-first-eq100+else-is_token_end,
}
use Rattle.lrat_read.proofs.numbers.after_letter.Goals.{
  else-first-line-via-then-first-line+else-line-first-eq100,
}
use Rattle.lrat_read.proofs.numbers.after_letter.Goals.{else-first-line-via-else-first-line}

pub returns-else-first-line : goal.returns-else-first-line
returns-else-first-line c =
    letter_missing c.args.line.now c.args.at c.skip_blanks-first.result
    c.skip_blanks-first.ensures.tokens c.skip_blanks-first.ensures.stops
    (λ h e ends. elim c.else-first-line.branch [
      | else-first-line-via-then-first-line+then-line-first-eq100+else-is_token_end w ↦
          both_ways _ w.if-is_token_end.false (w.is_token_end.ensures ∙ ap not ends)
      | else-first-line-via-then-first-line+else-line-first-eq100 w ↦ w.if-line-first-eq100.false e
      | else-first-line-via-else-first-line w ↦ omega arith
    ])
