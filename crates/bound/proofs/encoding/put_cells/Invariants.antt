-- What was put, and the lines of the cells that are left, is all.
use Rattle.std.proofs.Common.{drop}
use Rattle.bound.proofs.Streams.{IsPutUpTo, lines_of, cells_kept}
use Rattle.bound.proofs.encoding.put_cells.Given as goal

abbrev pub invariant-loop-cell : goal.invariant-loop-cell
invariant-loop-cell g l =
    IsPutUpTo (g.W.Write.contents l.fn.writer) l.fn.block (lines_of (cells_kept l.cells))
    (lines_of (cells_kept (drop l.cell-index l.cells))) (g.W.Write.contents l.writer) l.block
