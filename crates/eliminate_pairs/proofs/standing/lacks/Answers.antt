-- All literals were looked at.
use Rattle.std.proofs.Common.{subst}
use Rattle.std.specs.List.{AllByRecursion}
use Rattle.std.proofs.lemmas.List.{take_all}
use Rattle.eliminate_pairs.specs.Pairs.{IsOnOther}
use Rattle.eliminate_pairs.proofs.standing.lacks.Goals as goal

pub returns : goal.returns
returns c _ =
    subst (AllByRecursion (IsOnOther c.args.variable))
    (take_all c.loop-lit.lit-index c.args.lits.now c.loop-lit-test.false) c.loop-lit.invariant
