use Rattle.std.proofs.lemmas.Result.{IfOk-from_err}
use Rattle.flat_rows.proofs.rows.FlatRows.make_rooms.Goals as goal

pub returns-in_err-grow-clause-rooms : goal.returns-in_err-grow-clause-rooms
returns-in_err-grow-clause-rooms g c =
    IfOk-from_err c.from_residual.result _ c.from_residual.ensures.0

pub returns-in_err-give_room-clause-rooms : goal.returns-in_err-give_room-clause-rooms
returns-in_err-give_room-clause-rooms g c =
    IfOk-from_err c.from_residual-in_err-give_room.result _
    c.from_residual-in_err-give_room.ensures.0
