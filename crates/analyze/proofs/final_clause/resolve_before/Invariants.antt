use Rattle.analyze.specs.Marks.{ReducesBefore}
use Rattle.analyze.specs.Met.{IsMarking}
use Rattle.analyze.proofs.final_clause.resolve_before.Given as goal

abbrev pub invariant-loop-position : goal.invariant-loop-position
invariant-loop-position l = record {
  reduces : ReducesBefore l.store.slots l.engine.trail l.falsified l.fn.marking.marks.items
      l.marking.marks.items;
  marking : IsMarking l.engine l.marking;
}

abbrev pub decreases-loop-position : goal.decreases-loop-position
decreases-loop-position l = l.place
