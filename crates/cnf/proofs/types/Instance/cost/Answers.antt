use Rattle.std.proofs.Common.{◌∙◌}
use Rattle.cnf.proofs.Judgement.{soft_within}
use Rattle.cnf.proofs.types.Instance.cost.Goals as goal

pub is_satisfied-requires : goal.is_satisfied-requires
is_satisfied-requires c =
    rw c.requires (soft_within _ c.soft-soft-items.result.now
    (rw c.soft-soft-items.ensures c.vars.ensures.limits.soft_clauses) c.loop-soft.soft-index
    c.loop-soft-test.true c.soft-item.result c.soft-item.is c.lits.result.now
    (c.lits.ensures.lits ∙ c.clause.ensures))
