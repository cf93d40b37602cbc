-- What was counted, with the clauses of the cells that are left, is all.
use Rattle.std.proofs.Common.{◌≡◌, ◌+◌, length, drop}
use Rattle.bound.proofs.Streams.{cells_kept}
use Rattle.bound.proofs.encoding.count_cells.Given as goal

abbrev pub invariant-loop-cell : goal.invariant-loop-cell
invariant-loop-cell l =
    l.count + length (cells_kept (drop l.cell-index l.cells)) ≡ length (cells_kept l.cells)
