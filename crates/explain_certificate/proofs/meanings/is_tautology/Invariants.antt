-- Each turn leaves fewer literals.
use Rattle.std.proofs.Common.{length}
use Rattle.explain_certificate.proofs.meanings.is_tautology.Given as goal

abbrev pub decreases-loop-rest : goal.decreases-loop-rest
decreases-loop-rest l = length l.rest
