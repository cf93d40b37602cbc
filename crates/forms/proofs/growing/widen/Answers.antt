use Rattle.std.proofs.lemmas.Result.{IfOk-from_err}
use Rattle.forms.proofs.growing.widen.Goals as goal

pub returns-in_err-widen-clause-widened : goal.returns-in_err-widen-clause-widened
returns-in_err-widen-clause-widened c =
    IfOk-from_err c.from_residual.result _ c.from_residual.ensures.0

pub returns-in_err-widen-clause-marks : goal.returns-in_err-widen-clause-marks
returns-in_err-widen-clause-marks c =
    IfOk-from_err c.from_residual.result _ c.from_residual.ensures.0

pub returns-in_err-grow-clause-widened : goal.returns-in_err-grow-clause-widened
returns-in_err-grow-clause-widened c =
    IfOk-from_err c.from_residual-in_err-grow.result _ c.from_residual-in_err-grow.ensures.0

pub returns-in_err-grow-clause-marks : goal.returns-in_err-grow-clause-marks
returns-in_err-grow-clause-marks c =
    IfOk-from_err c.from_residual-in_err-grow.result _ c.from_residual-in_err-grow.ensures.0
