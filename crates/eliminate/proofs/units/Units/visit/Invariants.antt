use Rattle.std.proofs.Common.{◌≡◌, ◌+◌, false}
use Rattle.eliminate.specs.Units.{Propagates}
use Rattle.eliminate.proofs.units.Units.visit.Given as goal

abbrev pub invariant-loop-at : goal.invariant-loop-at
invariant-loop-at g l = record {
  next : l.visits.qhead ≡ l.fn.visits.qhead + 1;
  propagated : Propagates l.fn.self l.fn.simplifier l.fn.store.slots (g.S.Sink.lines l.fn.sink)
      l.self l.simplifier l.store.slots (g.S.Sink.lines l.sink);
  going : l.simplifier.is_refuted ≡ false;
}
