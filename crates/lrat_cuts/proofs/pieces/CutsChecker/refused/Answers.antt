-- What was refused stays so.
use Rattle.std.proofs.Common.{ap}
use Rattle.lrat_cuts.specs.Pieces.{CheckerState}
use Rattle.lrat_cuts.proofs.PieceLaws.{checker_stays}
use Rattle.lrat_cuts.proofs.pieces.CutsChecker.refused.Goals as goal

pub returns-clause-stays : goal.returns-clause-stays
returns-clause-stays c =
    checker_stays c.args.self.now c.self.inside.refused
    (ap (λ (x : CheckerState). (x.reading).refused) c.self.view_is)
