use Rattle.std.specs.Prelude.{not, ◌==◌}
use Rattle.propagate_watches.specs.declared.pool.WatchEntry.{WatchEntry}
use Rattle.flat_rows.proofs.Laws.{IsSieved}
use Rattle.propagate_watches.proofs.pool.WatchPool.remove.Given as goal

abbrev pub invariant-loop-read : goal.invariant-loop-read
invariant-loop-read l =
    IsSieved
    (λ (w : WatchEntry). not (w.reference == l.reference)) l.fn.self l.self l.row l.write l.read
