use Rattle.std.proofs.Common.{◌≡◌, ℕ, ◌<◌, true, false, List, Some}
use Rattle.cnf.specs.Literal.{Literal}
use Rattle.clauses.specs.Slots.{clause_at}
use Rattle.eliminate.specs.Units.{IsSettled, open_count, Propagates}
use Rattle.eliminate.proofs.units.Units.sweep.Given as goal

abbrev pub invariant-loop-place : goal.invariant-loop-place
invariant-loop-place g l = record {
  propagated : Propagates l.fn.self l.fn.simplifier l.fn.store.slots (g.S.Sink.lines l.fn.sink)
      l.self l.simplifier l.store.slots (g.S.Sink.lines l.sink);
  going : l.simplifier.is_refuted ≡ false;
  settled : l.found ≡ false → (l.self ≡ l.fn.self) × (l.store.slots ≡ l.fn.store.slots)
      × ((r : ℕ) (c : List Literal) → r < l.place → clause_at l.fn.store.slots r ≡ Some c
      → IsSettled l.fn.self.trail.items c);
  progress : l.found ≡ true → open_count l.self < open_count l.fn.self;
}
