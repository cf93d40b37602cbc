use Rattle.std.proofs.Common.{take}
use Rattle.propagate.proofs.Subsets.{AreRowsUnmarked}
use Rattle.propagate.proofs.engine.Engine.has_subset.Given as goal

abbrev pub invariant-loop-lit : goal.invariant-loop-lit
invariant-loop-lit l = AreRowsUnmarked l.self l.store.slots l.marks (take l.lit-index l.lits)
