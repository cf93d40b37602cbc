-- The clauses below a place are attached, and no others.
use Rattle.cdcl_search.specs.Starts.{AreAttachedBelow}
use Rattle.cdcl_search.proofs.starting.engine_of.Given as goal

abbrev pub invariant-loop-place : goal.invariant-loop-place
invariant-loop-place l = AreAttachedBelow l.engine l.store.slots l.variables l.place
