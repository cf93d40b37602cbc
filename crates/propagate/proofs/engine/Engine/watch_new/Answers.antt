use Rattle.std.proofs.lemmas.Result.{IfOk-from_err}
use Rattle.propagate.proofs.engine.Engine.watch_new.Goals as goal

pub returns-in_err-make_room-clause-ok : goal.returns-in_err-make_room-clause-ok
returns-in_err-make_room-clause-ok c =
    IfOk-from_err c.from_residual.result _ c.from_residual.ensures.0
