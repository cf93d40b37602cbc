use Rattle.std.proofs.lemmas.Result.{err_from_is_err_and}
use Rattle.lrat_result.proofs.ReportRead.{goes_on, stops, ended_at, unended_at}
use Rattle.lrat_result.proofs.result.read_report.Goals as goal

pub returns-in_err-stage : goal.returns-in_err-stage
returns-in_err-stage c =
    let p = err_from_is_err_and c.from_residual.result c.from_residual.ensures.1 in
    rw (p.1, p.2) (stops _ _ _ c.loop-number.invariant.2 _ _ _ c.in-Some.ensures.steps _
    c.in_err-stage.ensures)

pub loop-number-preserved : goal.loop-number-preserved
loop-number-preserved c = (
  tt,
  tt,
  goes_on _ _ _ c.loop-number.invariant.2 _ _ _ c.in-Some.ensures.steps
      c.in_ok-stage.stage c.in_ok-stage.ensures,
)

pub returns-in-End : goal.returns-in-End
returns-in-End c = ended_at _ _ _ c.loop-number.invariant.2 c.in-None.ensures.steps.0 _ c.in-End.is

pub returns-in_default : goal.returns-in_default
returns-in_default c =
    unended_at _ _ _ c.loop-number.invariant.2 c.in-None.ensures.steps.0 c.in_default.not-End
