use Rattle.std.proofs.Common.{◌≡◌, ◌<◌}
use Rattle.propagate.specs.Fits.{Fits}
use Rattle.propagate_bench.proofs.rounds.play.Given as goal

abbrev pub invariant-loop-k : goal.invariant-loop-k
invariant-loop-k l = Fits l.engine l.store.slots × (l.engine.variables ≡ l.vars) × (l.at < l.vars)
