use Rattle.std.proofs.lemmas.Result.{IfOk-from_err}
use Rattle.forms.proofs.growing.push_count.Goals as goal

pub returns-in_err-inputs-clause-count : goal.returns-in_err-inputs-clause-count
returns-in_err-inputs-clause-count c =
    IfOk-from_err c.from_residual.result _ c.from_residual.ensures.0

pub returns-in_err-inputs-clause-within : goal.returns-in_err-inputs-clause-within
returns-in_err-inputs-clause-within c =
    IfOk-from_err c.from_residual.result _ c.from_residual.ensures.0

pub returns-in_err-inputs-clause-stamped : goal.returns-in_err-inputs-clause-stamped
returns-in_err-inputs-clause-stamped c =
    IfOk-from_err c.from_residual.result _ c.from_residual.ensures.0

pub returns-in_err-push-clause-count : goal.returns-in_err-push-clause-count
returns-in_err-push-clause-count c =
    IfOk-from_err c.from_residual-in_err-push.result _ c.from_residual-in_err-push.ensures.0

pub returns-in_err-push-clause-within : goal.returns-in_err-push-clause-within
returns-in_err-push-clause-within c =
    IfOk-from_err c.from_residual-in_err-push.result _ c.from_residual-in_err-push.ensures.0

pub returns-in_err-push-clause-stamped : goal.returns-in_err-push-clause-stamped
returns-in_err-push-clause-stamped c =
    IfOk-from_err c.from_residual-in_err-push.result _ c.from_residual-in_err-push.ensures.0
