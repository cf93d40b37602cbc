-- No byte was fed.
use Rattle.std.proofs.Common.{refl}
use Rattle.lrat_check.proofs.PieceLaws.{starts}
use Rattle.lrat_check.proofs.pieces.Checker.over.Goals as goal

pub returns-clause-judged : goal.returns-clause-judged
returns-clause-judged c =
    record {
      fed = refl;
      holds =
          starts _ c.args.formula.clauses c.in_ok-new.ensures.state c.new-2.ensures refl;
    }
