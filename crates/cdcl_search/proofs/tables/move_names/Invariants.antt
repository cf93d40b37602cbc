use Rattle.cdcl_search.proofs.MovingNames.{IsMovingNames}
use Rattle.cdcl_search.proofs.tables.move_names.Given as goal

abbrev pub invariant-loop-old : goal.invariant-loop-old
invariant-loop-old l = IsMovingNames l.initial.names.items l.names.items l.pairs l.old-index
