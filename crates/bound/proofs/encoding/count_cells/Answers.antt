-- The clauses of one more cell were counted, and there are few in all.
use Rattle.std.proofs.Common.{◌<◌, length, arith, rules}
use Rattle.adder.specs.declared.networks.TheConstants.{CELL_LIMIT}
use Rattle.bound.proofs.Streams.{cells_counted, cell_counted}
use Rattle.bound.proofs.encoding.count_cells.Goals as goal

pub overflow_add-count : goal.overflow_add-count
overflow_add-count c =
    let cells = c.cells-cells.result.now in
    let one =
    cell_counted cells c.loop-cell.cell-index c.cell-item.result (search rules) c.cell-item.is _ _
    c.clear.ensures c.in_ok-keep_cell.ensures in
    let few : length cells < CELL_LIMIT = rw (c.cells-cells.ensures) c.requires.few in
    omega (arith, c.loop-cell.invariant, one, few, cells_counted cells, c.len-count.ensures)

pub loop-cell-preserved : goal.loop-cell-preserved
loop-cell-preserved c =
    let one = cell_counted c.cells-cells.result.now c.loop-cell.cell-index c.cell-item.result
    (search rules) c.cell-item.is _ _ c.clear.ensures c.in_ok-keep_cell.ensures in
    omega (arith, c.loop-cell.invariant, one, c.len-count.ensures)
