use Rattle.std.proofs.Common.{◌-◌}
use Rattle.propagate.specs.Steps.{GoesOn, AreTrueWaiting}
use Rattle.propagate.proofs.engine.Engine.look_at_queue.Given as goal

abbrev pub invariant-loop-falsified : goal.invariant-loop-falsified
invariant-loop-falsified l = record {
  goes_on : GoesOn l.store.slots l.initial.self l.self;
  waiting : AreTrueWaiting l.store.slots l.self;
}

abbrev pub decreases-loop-falsified : goal.decreases-loop-falsified
decreases-loop-falsified l = l.self.variables - l.self.watches.qhead
