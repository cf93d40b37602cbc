-- The first clauses are marked, where they may be deleted.
use Rattle.cdcl_search.specs.Deletions.{AreMarked}
use Rattle.cdcl_search.proofs.search.Search.mark.Given as goal

abbrev pub invariant-loop-reference : goal.invariant-loop-reference
invariant-loop-reference l = AreMarked l.self l.chosen l.reference-index l.doomed.items
