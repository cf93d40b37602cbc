use Rattle.std.proofs.Common.{◌∙◌, arith}
use Rattle.propagate_watches.specs.Doomed.{spared_entries}
use Rattle.flat_rows.proofs.Laws.{rows_more}
use Rattle.propagate_watches.proofs.pool.WatchPool.drop_doomed.Goals as goal

pub loop-row-preserved : goal.loop-row-preserved
loop-row-preserved c =
    c.drop_doomed_of.ensures
    ∙ rows_more (spared_entries c.args.doomed.now) c.args.self.now c.loop-row.self c.loop-row.row
    (omega (arith, c.loop-row-test.true, c.rows-row-end.ensures)) c.loop-row.invariant
