use Rattle.std.proofs.Common.{refl}
use Rattle.cuts_solver.proofs.Skipping.{runs_skip}
use Rattle.cuts_solver.proofs.solver.resuming.skip.Goals as goal

pub returns-clause-skips : goal.returns-clause-skips
returns-clause-skips c = λ p ls r. runs_skip c.args.search.now _ p ls r refl c.requires.few
