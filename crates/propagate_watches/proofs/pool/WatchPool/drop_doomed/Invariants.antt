use Rattle.std.proofs.Common.{◌≡◌, ◌++◌, map, take, drop}
use Rattle.propagate_watches.specs.Doomed.{spared_entries}
use Rattle.propagate_watches.proofs.pool.WatchPool.drop_doomed.Given as goal

abbrev pub invariant-loop-row : goal.invariant-loop-row
invariant-loop-row l =
    l.self ≡ map (spared_entries l.doomed) (take l.row l.fn.self) ++ drop l.row l.fn.self
