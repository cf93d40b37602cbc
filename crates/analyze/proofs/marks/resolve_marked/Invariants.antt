use Rattle.std.proofs.Common.{◌≡◌, ◌≤◌, length}
use Rattle.propagate.specs.Trail.{literals_of}
use Rattle.analyze.specs.Marks.{IsReducing}
use Rattle.analyze.specs.Met.{IsMarking}
use Rattle.analyze.proofs.marks.resolve_marked.Given as goal

abbrev pub invariant-loop-position : goal.invariant-loop-position
invariant-loop-position l = record {
  state : IsReducing l.store.slots l.engine.trail l.fn.marking.marks.items
      l.marking.marks.items l.left;
  within : l.place ≤ length l.engine.trail;
  literals : l.trail ≡ literals_of l.engine.trail;
  marking : IsMarking l.engine l.marking;
}

abbrev pub decreases-loop-position : goal.decreases-loop-position
decreases-loop-position l = l.place
