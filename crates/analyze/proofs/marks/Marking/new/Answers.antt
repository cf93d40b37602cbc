use Rattle.std.proofs.lemmas.Result.{IfOk-from_err}
use Rattle.analyze.proofs.marks.Marking.new.Goals as goal

pub returns-in_err-marks-clause-long : goal.returns-in_err-marks-clause-long
returns-in_err-marks-clause-long c =
    IfOk-from_err c.from_residual.result _ c.from_residual.ensures.0

pub returns-in_err-marks-clause-rest : goal.returns-in_err-marks-clause-rest
returns-in_err-marks-clause-rest c =
    IfOk-from_err c.from_residual.result _ c.from_residual.ensures.0

pub returns-in_err-met-clause-long : goal.returns-in_err-met-clause-long
returns-in_err-met-clause-long c =
    IfOk-from_err c.from_residual-in_err-met.result _ c.from_residual-in_err-met.ensures.0

pub returns-in_err-met-clause-rest : goal.returns-in_err-met-clause-rest
returns-in_err-met-clause-rest c =
    IfOk-from_err c.from_residual-in_err-met.result _ c.from_residual-in_err-met.ensures.0

pub returns-in_err-marked-clause-long : goal.returns-in_err-marked-clause-long
returns-in_err-marked-clause-long c =
    IfOk-from_err c.from_residual-in_err-marked.result _ c.from_residual-in_err-marked.ensures.0

pub returns-in_err-marked-clause-rest : goal.returns-in_err-marked-clause-rest
returns-in_err-marked-clause-rest c =
    IfOk-from_err c.from_residual-in_err-marked.result _ c.from_residual-in_err-marked.ensures.0

pub returns-in_err-list-clause-long : goal.returns-in_err-list-clause-long
returns-in_err-list-clause-long c =
    IfOk-from_err c.from_residual-in_err-list.result _ c.from_residual-in_err-list.ensures.0

pub returns-in_err-list-clause-rest : goal.returns-in_err-list-clause-rest
returns-in_err-list-clause-rest c =
    IfOk-from_err c.from_residual-in_err-list.result _ c.from_residual-in_err-list.ensures.0
