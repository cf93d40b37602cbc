-- Nothing is cheaper than what costs nothing.
use Rattle.improve.proofs.AtZero.{right_zero}
use Rattle.improve.proofs.search.concluding.conclude_zero.Goals as goal

pub returns-in-Ok-clause-found : goal.returns-in-Ok-clause-found
returns-in-Ok-clause-found c =
    right_zero c.args.profile c.args.instance.now c.args.bits c.in-Ok.refutation.log
    c.in-Ok.refutation.clauses c.requires.solution c.in-Ok.ensures.accepted c.in-Ok.ensures.counted
