-- The solver has worked, all lines were written, and the watch was told; or memory was refused, or
-- a write has failed.
use Rattle.std.proofs.Common.{refl, arith}
use Rattle.improve_cuts.proofs.Comes.{goes_on, search_on, solver_on}
use Rattle.improve_cuts.proofs.session.SessionDesk.bound.Goals as goal

pub returns-in_err-flush-in-Ok-true : goal.returns-in_err-flush-in-Ok-true
returns-in_err-flush-in-Ok-true g c = record {
  follows = λ first f. c.flush.ensures.follows first (goes_on f (solver_on c.bound.ensures.same));
}

pub returns-in_ok-flush-in-Ok-true : goal.returns-in_ok-flush-in-Ok-true
returns-in_ok-flush-in-Ok-true g c =
    let r = c.raised.ensures in
    record {
      follows = λ first f. goes_on
          (c.flush.ensures.follows first (goes_on f (solver_on c.bound.ensures.same)))
          (search_on (record { problem = refl; start = refl; origin = refl; cost = refl }) refl
          (omega (arith, r.same_waived)) r.same_seen);
    }

pub returns-in-Err : goal.returns-in-Err
returns-in-Err g c = record {
  follows = λ first f. c.fail.ensures.follows first (goes_on f (solver_on c.bound.ensures.same));
}
