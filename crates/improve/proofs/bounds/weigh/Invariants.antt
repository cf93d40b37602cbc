-- A hint leaves what is seen of the solver.
use Rattle.std.proofs.Common.{◌≡◌}
use Rattle.improve.proofs.bounds.weigh.Given as goal

abbrev pub invariant-loop-relaxation : goal.invariant-loop-relaxation
invariant-loop-relaxation l = l.solver ≡ l.fn.solver
