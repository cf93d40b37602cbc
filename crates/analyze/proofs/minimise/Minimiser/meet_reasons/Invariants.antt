use Rattle.analyze.specs.Met.{AreVariables}
use Rattle.analyze.proofs.minimise.Minimiser.meet_reasons.Given as goal

abbrev pub invariant-loop-lit : goal.invariant-loop-lit
invariant-loop-lit l = AreVariables l.marks l.list.items
