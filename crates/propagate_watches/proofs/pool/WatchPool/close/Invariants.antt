use Rattle.flat_rows.proofs.Laws.{IsClosing}
use Rattle.propagate_watches.proofs.pool.WatchPool.close.Given as goal

abbrev pub invariant-loop-moved : goal.invariant-loop-moved
invariant-loop-moved l = IsClosing l.fn.self l.self l.row l.write l.read l.moved
