-- The references so far stand behind those that were there.
use Rattle.std.proofs.Common.{◌≡◌, ◌++◌, take}
use Rattle.eliminate_tables.specs.Rows.{row_at}
use Rattle.eliminate_tables.proofs.rows.Rows.collect.Given as goal

abbrev pub invariant-loop-place : goal.invariant-loop-place
invariant-loop-place l =
    l.references.items ≡ l.fn.references.items ++ take l.place (row_at l.self.rows l.row)
