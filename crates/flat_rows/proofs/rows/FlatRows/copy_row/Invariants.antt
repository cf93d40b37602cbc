use Rattle.std.proofs.Common.{◌≡◌, take}
use Rattle.flat_rows.specs.Rows.{row_at, with_row}
use Rattle.flat_rows.proofs.rows.FlatRows.copy_row.Given as goal

abbrev pub invariant-loop-i : goal.invariant-loop-i
invariant-loop-i g l =
    l.self.rows ≡ with_row l.fn.self.rows l.row (take l.i (row_at l.other.rows l.row))
