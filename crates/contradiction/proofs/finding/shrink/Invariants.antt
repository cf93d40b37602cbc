-- What is left contradicts itself.
use Rattle.contradiction.specs.Contradictions.{AreContradictory}
use Rattle.contradiction.proofs.finding.shrink.Given as goal

abbrev pub invariant-loop : goal.invariant-loop
invariant-loop l = AreContradictory l.instance l.places.items
