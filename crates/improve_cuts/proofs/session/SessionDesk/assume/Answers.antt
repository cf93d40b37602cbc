-- The solver has worked, and a solution was met, or memory was refused.
use Rattle.improve_cuts.proofs.Comes.{goes_on, search_on}
use Rattle.improve_cuts.proofs.session.SessionDesk.assume.Goals as goal

pub returns-in_err-meet-in-Ok-Satisfied : goal.returns-in_err-meet-in-Ok-Satisfied
returns-in_err-meet-in-Ok-Satisfied g c =
    let s = c.assume.ensures in
    record {
      follows = λ first f. c.meet.ensures.follows first
          (goes_on f (search_on s.same s.pays.2 s.waives s.same_seen));
    }

pub returns-in_ok-meet-in-Ok-Satisfied : goal.returns-in_ok-meet-in-Ok-Satisfied
returns-in_ok-meet-in-Ok-Satisfied g c =
    let s = c.assume.ensures in
    record {
      follows = λ first f. c.meet.ensures.follows first
          (goes_on f (search_on s.same s.pays.2 s.waives s.same_seen));
    }

pub returns-in-Err : goal.returns-in-Err
returns-in-Err g c =
    let s = c.assume.ensures in
    record {
      follows = λ first f. c.fail.ensures.follows first
          (goes_on f (search_on s.same s.pays.2 s.waives s.same_seen));
    }
