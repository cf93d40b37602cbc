use Rattle.std.proofs.Common.{◌≡◌, ◌+◌, ◌*◌, ◌-◌, false, length}
use Rattle.eliminate.specs.Units.{Propagates, open_count}
use Rattle.eliminate.proofs.units.Units.follow.Given as goal

abbrev pub invariant-loop-visits : goal.invariant-loop-visits
invariant-loop-visits g l = record {
  propagated : Propagates l.fn.self l.fn.simplifier l.fn.store.slots (g.S.Sink.lines l.fn.sink)
      l.self l.simplifier l.store.slots (g.S.Sink.lines l.sink);
  going : l.simplifier.is_refuted ≡ false;
}

abbrev pub decreases-loop-visits : goal.decreases-loop-visits
decreases-loop-visits g l = 2 * open_count l.self + (length l.self.trail.items - l.visits.qhead)
