use Rattle.std.proofs.Common.{◌≡◌, ◌++◌, map, take, drop}
use Rattle.propagate_watches.specs.Renames.{named_entry}
use Rattle.propagate_watches.proofs.pool.WatchPool.rename.Given as goal

abbrev pub invariant-loop-row : goal.invariant-loop-row
invariant-loop-row l =
    l.self ≡ map (map (named_entry l.moves)) (take l.row l.fn.self) ++ drop l.row l.fn.self
