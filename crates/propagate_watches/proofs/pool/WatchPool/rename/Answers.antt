use Rattle.std.proofs.Common.{◌∙◌, map, arith}
use Rattle.propagate_watches.specs.Renames.{named_entry}
use Rattle.flat_rows.proofs.Laws.{rows_more}
use Rattle.propagate_watches.proofs.pool.WatchPool.rename.Goals as goal

pub loop-row-preserved : goal.loop-row-preserved
loop-row-preserved c =
    c.rename_row.ensures ∙ rows_more (map (named_entry c.args.moves.now)) c.args.self.now
    c.loop-row.self c.loop-row.row (omega (arith, c.loop-row-test.true, c.rows-row-end.ensures))
    c.loop-row.invariant
