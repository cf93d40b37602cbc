use Rattle.propagate_watches.specs.Renames.{IsMoving}
use Rattle.propagate_watches.proofs.moved.move_attachments.Given as goal

abbrev pub invariant-loop-at : goal.invariant-loop-at
invariant-loop-at l = IsMoving l.initial.table l.table l.pairs l.at l.next
