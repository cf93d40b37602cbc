use Rattle.std.proofs.lemmas.Result.{err_from_is_err_and}
use Rattle.lrat_machine.proofs.machine.apply_next.Goals as goal

pub returns-in_err-fault-clause-applied : goal.returns-in_err-fault-clause-applied
returns-in_err-fault-clause-applied c =
    let p = err_from_is_err_and c.from_residual.result c.from_residual.ensures.1 in
    rw (p.1) (c.in_err-fault.ensures.applied 0)
