-- The log refutes the formula for a cheaper solution.
use Rattle.improve.proofs.RightEnds.{right_optimum}
use Rattle.improve.proofs.search.concluding.conclude_optimum.Goals as goal

pub returns-in-Ok-clause-found : goal.returns-in-Ok-clause-found
returns-in-Ok-clause-found c =
    right_optimum c.args.instance.now c.args.descent.bounds c.args.descent.best.cost
    c.args.descent.best.bits
    c.in-Ok.log c.count_clauses-clauses.result c.requires.over c.in-Ok.ensures c.requires.refuted
    c.requires.solution c.requires.last c.requires.falling c.count_clauses-clauses.ensures
