-- The clauses of one more cell were put.
use Rattle.std.proofs.Common.{◌≡◌, [], drop, ap, rules}
use Rattle.std.proofs.lemmas.Result.{err_from_is_err_and}
use Rattle.std.proofs.lemmas.List.{drop_all}
use Rattle.bound.proofs.Streams.{lines_of, cells_kept, none_put, same_left, part_put, all_put}
use Rattle.bound.proofs.Streams.{cell_put, cell_fault}
use Rattle.bound.proofs.encoding.put_cells.Goals as goal

pub returns-in_err-keep_cell : goal.returns-in_err-keep_cell
returns-in_err-keep_cell g c =
    let p = err_from_is_err_and c.from_residual.result c.from_residual.ensures.1 in
    rw (p.1, ← c.cells-cells.ensures) (part_put _ _ _ _ _ _ c.loop-cell.invariant)

pub returns-in_err-put_clauses : goal.returns-in_err-put_clauses
returns-in_err-put_clauses g c =
    let p =
    err_from_is_err_and c.from_residual-in_err-put_clauses.result
    c.from_residual-in_err-put_clauses.ensures.1 in
    rw (p.1, ← c.cells-cells.ensures)
    (cell_fault c.cells-cells.result.now c.loop-cell.cell-index c.cell-item.result (search rules)
    c.cell-item.is _ _ c.clear.ensures c.in_ok-keep_cell.ensures _ _ _ _ _ _
    c.loop-cell.invariant c.in_err-put_clauses.ensures)

pub loop-cell-init : goal.loop-cell-init
loop-cell-init g c = none_put _ _ _

pub loop-cell-preserved : goal.loop-cell-preserved
loop-cell-preserved g c =
    cell_put c.cells-cells.result.now c.loop-cell.cell-index c.cell-item.result (search rules)
    c.cell-item.is _ _ c.clear.ensures c.in_ok-keep_cell.ensures _ _ _ _ _ _ c.loop-cell.invariant
    _ c.in_ok-put_clauses.ensures

pub returns : goal.returns
returns g c =
    let none : drop c.loop-cell.cell-index c.cells-cells.result.now ≡ [] =
    drop_all c.loop-cell.cell-index c.cells-cells.result.now (search rules) in
    rw (← c.cells-cells.ensures)
    (all_put _ _ _ _ _ (same_left _ _ _ _ _ _ _ (ap (λ x. lines_of (cells_kept x)) none)
    c.loop-cell.invariant))
