use Rattle.eliminate.specs.Simplifier.{StaysSimplified, Grows}
use Rattle.eliminate.specs.Units.{IsPropagating, open_count}
use Rattle.eliminate.proofs.units.Units.propagate.Given as goal

abbrev pub invariant-sweeps : goal.invariant-sweeps
invariant-sweeps g l = record {
  simplified : StaysSimplified l.fn.simplifier l.fn.store.slots (g.S.Sink.lines l.fn.sink)
      l.simplifier l.store.slots (g.S.Sink.lines l.sink);
  propagating : IsPropagating l.self l.simplifier l.store.slots (g.S.Sink.lines l.sink);
  grows : Grows l.fn.store.slots l.store.slots;
}

abbrev pub decreases-sweeps : goal.decreases-sweeps
decreases-sweeps g l = open_count l.self
