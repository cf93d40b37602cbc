-- One more line, and what holds of the result.
use Rattle.std.proofs.Common.{◌<◌, [], ◌∷◌, ◌++◌, length, map, take, ap, arith, append_assoc}
use Rattle.std.proofs.Common.{◌∙◌}
use Rattle.std.proofs.lemmas.Result.{IfOk-from_err}
use Rattle.lrat_log.specs.declared.lines.Kind.TheVariants.{Empty}
use Rattle.lrat_log.specs.Log.{LogLine, line_at}
use Rattle.lrat_log.specs.Rebase.{weaker_list, weaker_line, moved_line}
use Rattle.lrat_log.proofs.RebasedNew.{keeps_log_law}
use Rattle.lrat_log.proofs.RebasedLines.{take_mapped, weaker_more}
use Rattle.lrat_log.proofs.rebase.rebase.Goals as goal

pub loop-entry-preserved : goal.loop-entry-preserved
loop-entry-preserved c =
    let t = weaker_more c.args.weaker.now c.loop-entry.entry-index c.entry-item.result (omega arith)
    c.entry-item.is in
    cc (c.in_ok-append_weaker.ensures, c.loop-entry.invariant, t)

pub loop-line-preserved : goal.loop-line-preserved
loop-line-preserved c =
    let none : LogLine = record { kind = Empty; clause = []; hints = [] } in
    let lt : c.loop-line.line < length c.args.log.now = omega arith in
    let t =
    take_mapped (moved_line c.args.fixed (length c.args.weaker.now)) c.args.log.now
    c.loop-line.line none lt in
    let a =
    append_assoc (map weaker_line (weaker_list c.args.weaker.now))
    (take c.loop-line.line
    (map (moved_line c.args.fixed (length c.args.weaker.now)) c.args.log.now))
    (moved_line c.args.fixed (length c.args.weaker.now)
    (line_at c.args.log.now c.loop-line.line) ∷ []) in
    let here = c.in_ok-append_moved.ensures
    ∙ ap (λ l. c.loop-line.new ++ moved_line c.args.fixed (length c.args.weaker.now) l ∷ [])
    c.line_from-slice.ensures.line in
    record {
      lines = cc (here, c.loop-line.invariant.lines, a, t);
      lits = c.line_from-slice.ensures.lits;
      hints = c.line_from-slice.ensures.hints;
    }

pub returns-clause-keeps : goal.returns-clause-keeps
returns-clause-keeps c = keeps_log_law c.args.fixed (weaker_list c.args.weaker.now) c.args.log.now

pub returns-in_err-append_weaker-clause-lines : goal.returns-in_err-append_weaker-clause-lines
returns-in_err-append_weaker-clause-lines c =
    IfOk-from_err c.from_residual.result _ c.from_residual.ensures.0

pub returns-in_err-append_weaker-clause-keeps : goal.returns-in_err-append_weaker-clause-keeps
returns-in_err-append_weaker-clause-keeps c =
    IfOk-from_err c.from_residual.result _ c.from_residual.ensures.0

pub returns-in_err-append_moved-clause-lines : goal.returns-in_err-append_moved-clause-lines
returns-in_err-append_moved-clause-lines c =
    IfOk-from_err c.from_residual-in_err-append_moved.result _
    c.from_residual-in_err-append_moved.ensures.0

pub returns-in_err-append_moved-clause-keeps : goal.returns-in_err-append_moved-clause-keeps
returns-in_err-append_moved-clause-keeps c =
    IfOk-from_err c.from_residual-in_err-append_moved.result _
    c.from_residual-in_err-append_moved.ensures.0
