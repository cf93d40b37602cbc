use Rattle.std.proofs.lemmas.Result.{IfOk-from_err}
use Rattle.lrat_log.proofs.heads.HeadList.push.Goals as goal

pub returns-in_err-far-clause-ok : goal.returns-in_err-far-clause-ok
returns-in_err-far-clause-ok c = IfOk-from_err c.from_residual.result _ c.from_residual.ensures.0

pub returns-in_err-far-clause-few : goal.returns-in_err-far-clause-few
returns-in_err-far-clause-few c = IfOk-from_err c.from_residual.result _ c.from_residual.ensures.0

pub returns-in_err-push_near-clause-ok : goal.returns-in_err-push_near-clause-ok
returns-in_err-push_near-clause-ok c =
    IfOk-from_err c.from_residual-in_err-push_near.result _
    c.from_residual-in_err-push_near.ensures.0

pub returns-in_err-push_near-clause-few : goal.returns-in_err-push_near-clause-few
returns-in_err-push_near-clause-few c =
    IfOk-from_err c.from_residual-in_err-push_near.result _
    c.from_residual-in_err-push_near.ensures.0

pub returns-in_err-push-clause-ok : goal.returns-in_err-push-clause-ok
returns-in_err-push-clause-ok c =
    IfOk-from_err c.from_residual-in_err-push.result _ c.from_residual-in_err-push.ensures.0

pub returns-in_err-push-clause-few : goal.returns-in_err-push-clause-few
returns-in_err-push-clause-few c =
    IfOk-from_err c.from_residual-in_err-push.result _ c.from_residual-in_err-push.ensures.0
