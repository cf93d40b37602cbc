-- The bits are judged as an assignment that they extend to.
use Rattle.cnf.specs.Bits.{assignment_of}
use Rattle.cnf.proofs.Laws.{extends_own}
use Rattle.contradiction.proofs.finding.is_feasible.Goals as goal

pub returns : goal.returns
returns c =
    let t = assignment_of c.args.bits.now in
    λ yes none. none t ((c.feasible.ensures t (extends_own c.args.bits.now)).0 yes)
