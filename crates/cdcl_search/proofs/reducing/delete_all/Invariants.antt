use Rattle.std.proofs.Common.{◌≡◌, length}
use Rattle.cdcl_search.specs.Running.{Writes}
use Rattle.cdcl_search.specs.Deletions.{IsDeleting}
use Rattle.cdcl_search.proofs.Deleting.{AreGone}
use Rattle.cdcl_search.proofs.reducing.delete_all.Given as goal

abbrev pub invariant-loop-reference : goal.invariant-loop-reference
invariant-loop-reference g l = record {
  deleting : IsDeleting l.search l.input (g.S.Sink.lines l.sink) l.doomed.items;
  gone : AreGone l.search.store.slots l.chosen l.reference-index l.doomed.items;
  variables : l.search.engine.variables ≡ l.fn.search.engine.variables;
  long : length l.search.engine.trail ≡ length l.fn.search.engine.trail;
  policy : l.search.policy ≡ l.fn.search.policy;
  writes : Writes l.input.given (g.S.Sink.lines l.fn.sink) (g.S.Sink.lines l.sink) 0;
  follows : (first : g.row.S.Denot) → g.S.Sink.follows first l.fn.sink
      → g.S.Sink.follows first l.sink;
}
