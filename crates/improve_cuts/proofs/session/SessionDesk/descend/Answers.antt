-- The solver has worked, and a solution was met, or memory was refused.
use Rattle.improve_cuts.proofs.Comes.{goes_on, search_on}
use Rattle.improve_cuts.proofs.session.SessionDesk.descend.Goals as goal

pub returns-in_err-meet-in-Ok-Satisfied : goal.returns-in_err-meet-in-Ok-Satisfied
returns-in_err-meet-in-Ok-Satisfied g c =
    let s = c.search.ensures in
    record {
      follows = λ first f. c.meet.ensures.follows first
          (goes_on f (search_on s.same s.pays.2 s.waives s.same_seen));
    }

pub returns-then-branch : goal.returns-then-branch
returns-then-branch g c =
    let s = c.search.ensures in
    record {
      follows = λ first f. c.meet.ensures.follows first
          (goes_on f (search_on s.same s.pays.2 s.waives s.same_seen));
    }

pub returns-else-branch : goal.returns-else-branch
returns-else-branch g c =
    let s = c.search.ensures in
    record {
      follows = λ first f. c.meet.ensures.follows first
          (goes_on f (search_on s.same s.pays.2 s.waives s.same_seen));
    }

pub returns-in-Err : goal.returns-in-Err
returns-in-Err g c =
    let s = c.search.ensures in
    record {
      follows = λ first f. c.fail.ensures.follows first
          (goes_on f (search_on s.same s.pays.2 s.waives s.same_seen));
    }
