use Rattle.cnf.proofs.Judgement.{clauses_within, all_satisfied}
use Rattle.cnf.proofs.types.Instance.feasible.Goals as goal

pub are_satisfied-requires : goal.are_satisfied-requires
are_satisfied-requires c =
    rw (c.hard.ensures, c.requires) (clauses_within _ _ c.vars.ensures.limits.hard_clauses)

pub returns : goal.returns
returns c =
    λ t e. all_satisfied t c.args.self.now.hard c.are_satisfied.result
    (rw (← c.hard.ensures) (c.are_satisfied.ensures t e))
