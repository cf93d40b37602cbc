-- The clauses of the columns from here on were added, and the clause has the outputs of those where
-- the limit has a bit.
use Rattle.bound.proofs.Columns.{IsDownTo}
use Rattle.bound.proofs.comparators.keep_at_most.Given as goal

abbrev pub invariant-loop-column : goal.invariant-loop-column
invariant-loop-column l =
    IsDownTo l.outputs l.limit l.column l.initial.clauses l.clauses l.clause.items
