use Rattle.propagate_watches.specs.Renames.{named_entry}
use Rattle.flat_rows.proofs.Laws.{IsMapped}
use Rattle.propagate_watches.proofs.pool.WatchPool.rename_row.Given as goal

abbrev pub invariant-loop-i : goal.invariant-loop-i
invariant-loop-i l = IsMapped (named_entry l.moves) l.fn.self l.self l.row l.i
