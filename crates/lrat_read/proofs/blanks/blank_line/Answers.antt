-- The line ends here.
use Rattle.lrat_read.proofs.BlankLaws.{blank_to_feed, blank_to_return}
use Rattle.lrat_read.proofs.blanks.blank_line.Goals as goal

pub returns-then-text-end-eq10-clause-read : goal.returns-then-text-end-eq10-clause-read
returns-then-text-end-eq10-clause-read c =
    let end = c.skip_blanks-end.ensures in
    blank_to_feed c.args.text.now c.args.at c.skip_blanks-end.result end.from end.blank
    c.if-end-text.true c.if-text-end-eq10.true

pub returns-then-text-end-eq10-2-clause-read : goal.returns-then-text-end-eq10-2-clause-read
returns-then-text-end-eq10-2-clause-read c =
    let end = c.skip_blanks-end.ensures in
    blank_to_return c.args.text.now c.args.at c.skip_blanks-end.result end.from end.blank
    c.if-end-text-2.true c.if-text-end-eq13.true c.if-text-end-eq10-2.true
