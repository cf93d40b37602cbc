-- All lines are written, or a write has failed.
use Rattle.improve_cuts.proofs.Comes.{goes_on, solver_on}
use Rattle.improve_cuts.proofs.session.Session.flush.Goals as goal

pub returns-in-Err-clause-follows : goal.returns-in-Err-clause-follows
returns-in-Err-clause-follows g c =
    λ first f. c.fail.ensures.follows first (goes_on f (solver_on c.flush.ensures.same))
