use Rattle.std.proofs.Common.{arith}
use Rattle.cnf.specs.Literal.{index_of}
use Rattle.propagate_watches.specs.Pool.{row_at}
use Rattle.propagate.proofs.Subsets.{row_more}
use Rattle.propagate.proofs.engine.Engine.row_has_marked.Goals as goal

pub loop-at-preserved : goal.loop-at-preserved
loop-at-preserved c =
    row_more c.args.store.now.slots c.args.marks.now
    (row_at c.args.self.now.watches.rows (index_of c.args.lit)) c.loop-at.at c.entry.result
    (let t = c.loop-at-test.true in let n = c.row_len-at-end.ensures in omega arith)
    c.entry.ensures (c.entry_is_marked.ensures.none c.if-entry_is_marked.false) c.loop-at.invariant
