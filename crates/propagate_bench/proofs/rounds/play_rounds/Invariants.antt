use Rattle.std.proofs.Common.{◌≡◌}
use Rattle.propagate.specs.Fits.{Fits}
use Rattle.propagate_bench.proofs.rounds.play_rounds.Given as goal

abbrev pub invariant-loop-round : goal.invariant-loop-round
invariant-loop-round l = Fits l.engine l.store.slots × (l.engine.variables ≡ l.vars)
