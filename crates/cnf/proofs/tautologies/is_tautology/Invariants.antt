-- The literals that are gone have no negation.
use Rattle.std.proofs.Common.{◌≡◌, length}
use Rattle.cnf.specs.Clause.{is_tautology}
use Rattle.cnf.proofs.tautologies.is_tautology.Given as goal

abbrev pub invariant-loop-rest : goal.invariant-loop-rest
invariant-loop-rest l = is_tautology l.initial.rest ≡ is_tautology l.rest

abbrev pub decreases-loop-rest : goal.decreases-loop-rest
decreases-loop-rest l = length l.rest
