use Rattle.std.proofs.Common.{arith}
use Rattle.propagate_watches.specs.Renames.{named_entry}
use Rattle.flat_rows.proofs.Laws.{mapped_more}
use Rattle.propagate_watches.proofs.pool.WatchPool.rename_row.Goals as goal

pub loop-i-preserved : goal.loop-i-preserved
loop-i-preserved c =
    rw (c.set.ensures, c.new_entry.ensures)
    (mapped_more (named_entry c.args.moves.now) c.args.self.now c.loop-i.self c.args.row
    c.loop-i.i c.loop-i.invariant c.get-entry.result c.requires.row
    (omega (arith, c.loop-i-test.true, c.len-i-end.ensures)) c.get-entry.ensures)
