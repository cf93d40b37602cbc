use Rattle.clauses.proofs.Renaming.{IsListing}
use Rattle.clauses.proofs.store.list_moves.Given as goal

abbrev pub invariant-loop-old : goal.invariant-loop-old
invariant-loop-old l = IsListing l.heads l.old l.pairs.items
