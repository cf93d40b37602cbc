use Rattle.std.proofs.lemmas.Result.{IfOk-from_err}
use Rattle.cdcl_order.proofs.policy.Policy.new.Goals as goal

pub returns-in_err-order : goal.returns-in_err-order
returns-in_err-order c =
    IfOk-from_err c.from_residual.result _ c.from_residual.ensures.0

pub returns-in_err-phases : goal.returns-in_err-phases
returns-in_err-phases c =
    IfOk-from_err c.from_residual-in_err-phases.result _ c.from_residual-in_err-phases.ensures.0

pub returns-in_err-levels : goal.returns-in_err-levels
returns-in_err-levels c =
    IfOk-from_err c.from_residual-in_err-levels.result _ c.from_residual-in_err-levels.ensures.0
