use Rattle.std.proofs.Common.{length}
use Rattle.analyze.specs.Marks.{Reduces}
use Rattle.analyze.specs.Met.{IsMarking}
use Rattle.analyze.proofs.minimise.Minimiser.drop_redundant.Given as goal

abbrev pub invariant-loop-settled : goal.invariant-loop-settled
invariant-loop-settled l = record {
  reduces : Reduces l.store.slots l.engine.trail l.fn.marking.marks.items
      l.marking.marks.items l.asserting;
  marking : IsMarking l.engine l.marking;
}

abbrev pub decreases-loop-settled : goal.decreases-loop-settled
decreases-loop-settled l = length l.self.settled.items
