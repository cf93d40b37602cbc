-- The first token, and which word it is.
use Rattle.std.proofs.Common.{◌<◌, ◌∙◌, ap, arith, drop, length, slice_range, subst, sym}
use Rattle.text.specs.Text.{tokens_of}
use Rattle.lrat_read.specs.Words.{IsWordAt}
use Rattle.lrat_read.specs.Words.{word_line_of}
use Rattle.lrat_read.proofs.Ends.{no_word, none_here_left, token_here, word_none}
use Rattle.lrat_read.proofs.words.word_at.Goals as goal
use Rattle.lrat_read.proofs.words.word_at.Goals.{then-start-line-via-then-start-line}
use Rattle.lrat_read.proofs.words.word_at.Goals.{
  then-start-line-via-else-start-line+then-line-start-lt97,
}

pub returns-then-start-line : goal.returns-then-start-line
returns-then-start-line c =
    let line = c.args.line.now in
    let start = c.skip_blanks-start in
    let blanks = start.ensures in
    elim c.then-start-line.branch [
      | then-start-line-via-then-start-line w ↦
          ap word_line_of
          (none_here_left line 0 start.result blanks.tokens (omega (arith, w.if-start-line.true)))
      | then-start-line-via-else-start-line+then-line-start-lt97 w ↦
          let inside : start.result < length line =
          omega (arith, blanks.within, w.if-start-line.false) in
          no_word line 0 start.result blanks.tokens inside (blanks.stops inside)
          w.if-line-start-lt97.true
    ]

pub returns-in_err-word : goal.returns-in_err-word
returns-in_err-word c =
    let line = c.args.line.now in
    let start = c.skip_blanks-start in
    let blanks = start.ensures in
    let end = c.token_end-end in
    let inside : start.result < length line =
    omega (arith, blanks.within, c.if-start-line.false) in
    let token = token_here line 0 start.result end.result blanks.tokens inside
    (blanks.stops inside) end.ensures.from end.ensures.solid end.ensures.stops in
    subst (IsWordAt line) (sym c.from_residual.ensures)
    (word_none (tokens_of line) (tokens_of (drop end.result line))
    (slice_range line start.result end.result) token (sym c.known_word.ensures ∙ c.in_err-word.was))

pub returns : goal.returns
returns c =
    let line = c.args.line.now in
    let start = c.skip_blanks-start in
    let blanks = start.ensures in
    let end = c.token_end-end in
    let inside : start.result < length line =
    omega (arith, blanks.within, c.if-start-line.false) in
    let token = token_here line 0 start.result end.result blanks.tokens inside
    (blanks.stops inside) end.ensures.from end.ensures.solid end.ensures.stops in (
      slice_range line start.result end.result,
      token,
      sym c.known_word.ensures ∙ c.in_ok-word.was,
      end.ensures.within,
    )
