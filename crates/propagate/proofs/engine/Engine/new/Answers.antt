use Rattle.std.proofs.lemmas.Result.{IfOk-from_err}
use Rattle.propagate.proofs.engine.Engine.new.Goals as goal

pub returns-in_err-trail-clause-empty : goal.returns-in_err-trail-clause-empty
returns-in_err-trail-clause-empty c =
    IfOk-from_err c.from_residual.result _ c.from_residual.ensures.0

pub returns-in_err-trail-clause-fits : goal.returns-in_err-trail-clause-fits
returns-in_err-trail-clause-fits c =
    IfOk-from_err c.from_residual.result _ c.from_residual.ensures.0

pub returns-in_err-trail-clause-unattached : goal.returns-in_err-trail-clause-unattached
returns-in_err-trail-clause-unattached c =
    IfOk-from_err c.from_residual.result _ c.from_residual.ensures.0

pub returns-in_err-pool-clause-empty : goal.returns-in_err-pool-clause-empty
returns-in_err-pool-clause-empty c =
    IfOk-from_err c.from_residual-in_err-pool.result _ c.from_residual-in_err-pool.ensures.0

pub returns-in_err-pool-clause-fits : goal.returns-in_err-pool-clause-fits
returns-in_err-pool-clause-fits c =
    IfOk-from_err c.from_residual-in_err-pool.result _ c.from_residual-in_err-pool.ensures.0

pub returns-in_err-pool-clause-unattached : goal.returns-in_err-pool-clause-unattached
returns-in_err-pool-clause-unattached c =
    IfOk-from_err c.from_residual-in_err-pool.result _ c.from_residual-in_err-pool.ensures.0
