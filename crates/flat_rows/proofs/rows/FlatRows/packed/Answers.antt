use Rattle.std.proofs.Common.{[], arith}
use Rattle.std.proofs.lemmas.List.{ext_get_or}
use Rattle.std.proofs.lemmas.Result.{IfOk-from_err}
use Rattle.flat_rows.proofs.rows.FlatRows.packed.Goals as goal

pub returns : goal.returns
returns g c =
    let i = c.loop-row.invariant in
    ext_get_or [] c.loop-row.packed.rows c.args.self.now.rows i.long
    (λ k lt. i.copied k (omega (arith, i.long, c.loop-row-test.false, c.rows-row-end.ensures)))

pub returns-in_err-push : goal.returns-in_err-push
returns-in_err-push g c = IfOk-from_err c.from_residual.result _ c.from_residual.ensures.0

pub returns-in_err-packed : goal.returns-in_err-packed
returns-in_err-packed g c =
    IfOk-from_err c.from_residual-in_err-packed.result _ c.from_residual-in_err-packed.ensures.0

pub returns-in_err-make_rooms : goal.returns-in_err-make_rooms
returns-in_err-make_rooms g c =
    IfOk-from_err c.from_residual-in_err-make_rooms.result _
    c.from_residual-in_err-make_rooms.ensures.0

pub returns-in_err-copy_row : goal.returns-in_err-copy_row
returns-in_err-copy_row g c =
    IfOk-from_err c.from_residual-in_err-copy_row.result _ c.from_residual-in_err-copy_row.ensures.0
