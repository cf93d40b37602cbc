use Rattle.std.proofs.Common.{◌≡◌, ℕ, take}
use Rattle.std.specs.Prelude.{Contains}
use Rattle.propagate.specs.Steps.{GoesOn, IsTrueWaiting}
use Rattle.propagate.proofs.engine.Engine.look_at_waiting.Given as goal

abbrev pub invariant-loop-at : goal.invariant-loop-at
invariant-loop-at l = record {
  goes_on : GoesOn l.store.slots l.initial.self l.self;
  list : l.self.watches.waiting ≡ l.initial.self.watches.waiting;
  seen : (r : ℕ) → Contains (take l.at l.initial.self.watches.waiting) r
      → IsTrueWaiting l.store.slots l.self r;
}
