use Rattle.std.proofs.Common.{◌≡◌}
use Rattle.propagate.specs.Fits.{Fits}
use Rattle.propagate_bench.proofs.loading.load.Given as goal

abbrev pub invariant-loop-token : goal.invariant-loop-token
invariant-loop-token l = Fits l.engine l.store.slots × (l.engine.variables ≡ l.vars)

abbrev pub invariant-loop-number : goal.invariant-loop-number
invariant-loop-number l = Fits l.engine l.store.slots × (l.engine.variables ≡ l.vars)
