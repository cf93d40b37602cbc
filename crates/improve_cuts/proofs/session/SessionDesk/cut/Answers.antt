-- The solver has worked, for a unit of the budget, or memory was refused.
use Rattle.std.proofs.Common.{◌+◌, refl, ap}
use Rattle.improve_cuts.proofs.Comes.{goes_on, search_on}
use Rattle.improve_cuts.proofs.session.SessionDesk.cut.Goals as goal

pub returns-in-Err : goal.returns-in-Err
returns-in-Err g c =
    let s = c.cut.ensures in
    record {
      follows = λ first f. c.fail.ensures.follows first (goes_on f (search_on s.same s.pays.2
          (ap (λ n. n + g.K.SearchWatch.waived c.args.self.now.watch.now) s.kept) refl));
    }
