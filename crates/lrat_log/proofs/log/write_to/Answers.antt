-- What was put before a fault is a beginning of the text.
use Rattle.std.proofs.Common.{◌<◌, ◌≤◌, [], length, arith}
use Rattle.std.proofs.lemmas.Result.{err_from_is_err_and}
use Rattle.lrat_log.proofs.LineTexts.{last_on-few, last_next, lines_more, line_fault}
use Rattle.lrat_log.proofs.LineTexts.{text_written}
use Rattle.lrat_log.proofs.Text.{text_of-lines}
use Rattle.lrat_log.proofs.Numbering.{holds_at_each_base}
use Rattle.lrat_log.proofs.log.write_to.Goals as goal

pub put_line-requires-clause-last : goal.put_line-requires-clause-last
put_line-requires-clause-last g c =
    let bound = last_on-few c.args.base c.args.log.now c.loop-line.line in
    let here : c.loop-line.line < length c.args.log.now = omega arith in
    omega (arith, c.loop-line.invariant.0)

pub returns-in_err-last-clause-writes : goal.returns-in_err-last-clause-writes
returns-in_err-last-clause-writes g c =
    let p = err_from_is_err_and c.from_residual.result c.from_residual.ensures.1 in
    let here : c.loop-line.line < length c.args.log.now = omega arith in
    let q =
    line_fault (g.W.Write.contents c.args.writer.now) (g.W.Write.contents c.loop-line.writer)
    (g.W.Write.contents c.put_line.new.writer) c.loop-line.block [] c.args.base c.loop-line.last
    c.args.log.now c.loop-line.line
    here c.loop-line.invariant.0 c.loop-line.invariant.1
    (rw (← c.line_from-slice.ensures.line) c.in_err-last.ensures.puts) in
    rw (p.1) q

pub returns-in_err-last-clause-lines : goal.returns-in_err-last-clause-lines
returns-in_err-last-clause-lines g c =
    text_of-lines c.args.base c.args.log.now c.len-line-end.ensures.log.lines c.requires.ids
    c.requires.room

pub loop-line-preserved : goal.loop-line-preserved
loop-line-preserved g c =
    let here : c.loop-line.line < length c.args.log.now = omega arith in (
      last_next c.args.base c.loop-line.last c.in_ok-last.last c.args.log.now c.loop-line.line here
          c.loop-line.invariant.0 (rw (← c.line_from-slice.ensures.line) c.in_ok-last.ensures.last),
      lines_more _ _ _ _ _ c.args.base c.loop-line.last c.args.log.now c.loop-line.line here
          c.loop-line.invariant.0 c.loop-line.invariant.1
          (rw (← c.line_from-slice.ensures.line) c.in_ok-last.ensures.puts),
      (c.line_from-slice.ensures.lits, c.line_from-slice.ensures.hints),
    )

pub returns-clause-writes : goal.returns-clause-writes
returns-clause-writes g c =
    let done : length c.args.log.now ≤ c.loop-line.line = omega arith in
    text_written (g.W.Write.contents c.args.writer.now) (g.W.Write.contents c.loop-line.writer)
    (g.W.Write.contents c.flush.new.writer) c.loop-line.block [] c.args.base c.loop-line.last
    c.args.log.now c.loop-line.line c.flush.result done c.loop-line.invariant.1
    c.flush.ensures.writes

pub returns-clause-lines : goal.returns-clause-lines
returns-clause-lines g c =
    text_of-lines c.args.base c.args.log.now c.len-line-end.ensures.log.lines c.requires.ids
    c.requires.room

pub returns-in_err-last-clause-bases : goal.returns-in_err-last-clause-bases
returns-in_err-last-clause-bases g c = holds_at_each_base c.args.log.now

pub returns-clause-bases : goal.returns-clause-bases
returns-clause-bases g c = holds_at_each_base c.args.log.now
