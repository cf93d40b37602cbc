-- The clauses so far were deleted.
use Rattle.std.proofs.Common.{◌≡◌, take}
use Rattle.lrat_log.specs.Steps.{added_count}
use Rattle.eliminate.specs.Variables.{LeavesOut, KeepsWork}
use Rattle.eliminate.proofs.variables.delete_all.Given as goal

abbrev pub invariant-loop-reference : goal.invariant-loop-reference
invariant-loop-reference g l = record {
  work : KeepsWork l.names.names l.fn.store.slots (g.S.Sink.lines l.fn.sink) l.store.slots
      (g.S.Sink.lines l.sink);
  counted : added_count (g.S.Sink.lines l.sink) ≡ added_count (g.S.Sink.lines l.fn.sink);
  left : LeavesOut (take l.reference-index l.references) l.fn.store.slots l.store.slots;
}
