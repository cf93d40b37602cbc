use Rattle.std.proofs.Common.{◌≡◌, ℕ, true, take}
use Rattle.std.specs.Prelude.{Contains}
use Rattle.propagate.specs.Watches.{is_attached}
use Rattle.propagate.specs.Subsets.{IsUnmarked}
use Rattle.propagate.proofs.engine.Engine.waiting_has_marked.Given as goal

abbrev pub invariant-loop-at : goal.invariant-loop-at
invariant-loop-at l = (r : ℕ) → Contains (take l.at l.self.watches.waiting) r
    → is_attached l.self r ≡ true → IsUnmarked l.store.slots l.marks r
