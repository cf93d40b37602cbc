-- No byte was read yet.
use Rattle.lrat_cuts.proofs.PieceLaws.{begins}
use Rattle.lrat_cuts.proofs.pieces.CutsChecker.new.Goals as goal

pub returns-clause-judged : goal.returns-clause-judged
returns-clause-judged c =
    begins c.in_ok-new.field-0 c.new-rest.result c.args.cost c.args.instance.now
    c.in_ok-new.ensures c.new-rest.ensures
