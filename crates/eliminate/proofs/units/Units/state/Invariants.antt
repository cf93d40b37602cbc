use Rattle.std.proofs.Common.{take}
use Rattle.eliminate.proofs.ClauseStates.{HasStateSoFar}
use Rattle.eliminate.proofs.units.Units.state.Given as goal

abbrev pub invariant-loop-lit : goal.invariant-loop-lit
invariant-loop-lit l = HasStateSoFar l.self.trail.items (take l.lit-index l.lit-items) l.found
