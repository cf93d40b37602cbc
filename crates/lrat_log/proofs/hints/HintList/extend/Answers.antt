use Rattle.std.proofs.lemmas.Result.{IfOk-from_err}
use Rattle.lrat_log.proofs.hints.HintList.extend.Goals as goal

pub returns-in_err-push_narrow-clause-ok : goal.returns-in_err-push_narrow-clause-ok
returns-in_err-push_narrow-clause-ok c =
    IfOk-from_err c.from_residual.result _ c.from_residual.ensures.0
