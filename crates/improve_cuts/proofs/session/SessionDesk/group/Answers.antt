-- The solver has worked, or memory was refused.
use Rattle.improve_cuts.proofs.Comes.{goes_on, solver_on}
use Rattle.improve_cuts.proofs.session.SessionDesk.group.Goals as goal

pub returns-in-Err : goal.returns-in-Err
returns-in-Err g c = record {
  follows = λ first f. c.fail.ensures.follows first (goes_on f (solver_on c.group.ensures.same));
}
