-- What is added so far is what is kept of the clauses before the index.
use Rattle.std.proofs.Common.{◌≡◌, ◌++◌, take}
use Rattle.bound.specs.Bound.{kept}
use Rattle.bound.proofs.cells.keep_rows.Given as goal

abbrev pub invariant-loop-row : goal.invariant-loop-row
invariant-loop-row g l = l.clauses ≡ l.initial.clauses ++ kept (take l.row-index l.rows)
