use Rattle.std.proofs.lemmas.Result.{IfOk-from_err}
use Rattle.flat_rows.proofs.rows.FlatRows.push.Goals as goal

pub returns-in_err-make_room-clause-ok : goal.returns-in_err-make_room-clause-ok
returns-in_err-make_room-clause-ok g c =
    IfOk-from_err c.from_residual.result _ c.from_residual.ensures.0
