use Rattle.std.proofs.Common.{sym}
use Rattle.lrat_machine.proofs.Groups.{true_at}
use Rattle.lrat_machine.proofs.rat.finds_true.Goals as goal

pub returns-then-is_true : goal.returns-then-is_true
returns-then-is_true c =
    sym (true_at c.args.assumed.now.literals c.args.clause.now c.loop-lit.lit-index c.args.left_out
    c.lit-item.result c.loop-lit-test.true c.lit-item.is (sym c.if-ne.ensures)
    (sym c.if-is_true.ensures))
