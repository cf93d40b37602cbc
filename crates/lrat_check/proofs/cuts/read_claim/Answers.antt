use Rattle.std.proofs.Common.{refl}
use Rattle.lrat_check.proofs.CutsLaws.{none_by}
use Rattle.lrat_check.proofs.Judging.{optimum_by_least}
use Rattle.lrat_check.proofs.cuts.read_claim.Goals as goal

pub returns-in-None-clause-sound : goal.returns-in-None-clause-sound
returns-in-None-clause-sound c =
    optimum_by_least c.args.instance.now c.args.report.now c.in-Optimum.solution c.in-Optimum.is
    (c.in-None.ensures.right refl)

pub returns-in-Unsat-clause-sound : goal.returns-in-Unsat-clause-sound
returns-in-Unsat-clause-sound c =
    rw c.in-Unsat.is (none_by c.args.instance.now c.limits.ensures)
