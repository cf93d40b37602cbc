-- A literal is marked, or the clause's are not all.
use Rattle.std.proofs.Common.{rules, sym}
use Rattle.cnf.proofs.Marking.{all_next, not_all}
use Rattle.cnf.proofs.marks.Marks.has_all.Goals as goal

pub returns-then-not-is_marked : goal.returns-then-not-is_marked
returns-then-not-is_marked c =
    sym (not_all c.args.self.now c.args.lits.now c.loop-lit.lit-index c.lit-item.result
    (search rules) c.lit-item.is (search rules))

pub loop-lit-preserved : goal.loop-lit-preserved
loop-lit-preserved c =
    all_next c.args.self.now c.args.lits.now c.loop-lit.lit-index c.lit-item.result (search rules)
    c.lit-item.is (search rules) c.loop-lit.invariant
