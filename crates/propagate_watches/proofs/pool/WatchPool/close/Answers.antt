use Rattle.std.proofs.Common.{◌≡◌, ◌-◌, arith}
use Rattle.flat_rows.proofs.Laws.{closing_more, closing_all}
use Rattle.propagate_watches.proofs.pool.WatchPool.close.Goals as goal

pub loop-moved-preserved : goal.loop-moved-preserved
loop-moved-preserved c =
    rw c.set.ensures (closing_more c.args.self.now c.loop-moved.self c.args.row c.args.write
    c.args.read c.loop-moved.moved c.loop-moved.invariant c.requires.order c.requires.row
    (omega (arith, c.loop-moved-test.true, c.len-len.ensures, c.requires.within)) c.get-entry.result
    c.get-entry.ensures)

pub returns : goal.returns
returns c =
    let all : c.len-len.result - c.args.read ≡ c.loop-moved.moved =
    omega (arith, c.loop-moved-test.false, c.loop-moved.auto.moved-end) in
    rw (c.truncate.ensures, all)
    (closing_all c.args.self.now c.loop-moved.self c.args.row c.args.write c.args.read
    c.loop-moved.moved c.loop-moved.invariant
    (omega (arith, c.len-len.ensures)) (omega (arith, c.len-len.ensures)))
