-- What is added so far is what is kept of the clauses of the cells before the index.
use Rattle.std.proofs.Common.{◌≡◌, ◌++◌, take}
use Rattle.std.specs.List.{flat_map}
use Rattle.bound.specs.Bound.{kept, cell_clauses}
use Rattle.bound.proofs.cells.keep_cells.Given as goal

abbrev pub invariant-loop-cell : goal.invariant-loop-cell
invariant-loop-cell l =
    l.clauses ≡ l.initial.clauses ++ kept (flat_map cell_clauses (take l.cell-index l.cells))
