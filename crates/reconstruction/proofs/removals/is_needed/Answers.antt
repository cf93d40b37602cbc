-- Another literal is true.
use Rattle.std.proofs.Common.{sym}
use Rattle.cnf.specs.Bits.{assignment_of}
use Rattle.cnf.proofs.Laws.{codes_differ}
use Rattle.reconstruction.proofs.Needed.{not_needed}
use Rattle.reconstruction.proofs.removals.is_needed.Goals as goal

pub returns-then-is_true : goal.returns-then-is_true
returns-then-is_true c =
    sym (not_needed (assignment_of c.args.bits.now) c.args.literal c.args.clause.now
    c.loop-lit.lit-index c.lit-item.result c.loop-lit-test.true c.lit-item.is
    (codes_differ c.lit-item.result c.args.literal (sym c.if-eq.ensures))
    (sym c.if-is_true.ensures))
