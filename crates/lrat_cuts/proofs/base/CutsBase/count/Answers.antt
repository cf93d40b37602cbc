-- The clauses that were made are put.
use Rattle.std.proofs.Common.{ap}
use Rattle.lrat_cuts.specs.Cuts.{CutsState}
use Rattle.lrat_cuts.proofs.Putting.{puts_all}
use Rattle.lrat_cuts.proofs.base.CutsBase.count.Goals as goal

pub returns-clause-puts : goal.returns-clause-puts
returns-clause-puts c = λ _.
    puts_all _ _ _ _ (ap (λ (x : CutsState). x.live) c.self.view_is)
    (ap (λ (x : CutsState). x.last) c.self.view_is) c.in_ok-put_all.ensures
