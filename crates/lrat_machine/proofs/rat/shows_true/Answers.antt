use Rattle.std.proofs.Common.{sym}
use Rattle.lrat_machine.proofs.Groups.{true_shown}
use Rattle.lrat_machine.proofs.rat.shows_true.Goals as goal

pub returns-then-shows : goal.returns-then-shows
returns-then-shows c = λ _.
    true_shown c.args.lits.now c.args.clause.now c.loop-lit.lit-index c.args.left_out
    c.lit-item.result c.loop-lit-test.true c.lit-item.is (sym c.if-ne.ensures)
    (c.shows.ensures c.if-shows.true)
