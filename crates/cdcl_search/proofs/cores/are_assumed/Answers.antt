use Rattle.std.proofs.Common.{subst, arith}
use Rattle.std.specs.Prelude.{All, Contains}
use Rattle.std.proofs.lemmas.List.{take_all}
use Rattle.cnf.specs.Literal.{Literal, negation}
use Rattle.cdcl_search.proofs.CoreLines.{assumed_more}
use Rattle.cdcl_search.proofs.cores.are_assumed.Goals as goal

pub loop-lit-preserved : goal.loop-lit-preserved
loop-lit-preserved c =
    assumed_more c.args.assumptions.now c.args.lits.now c.loop-lit.lit-index c.lit-item.result
    c.negation.result c.loop-lit-test.true c.lit-item.is c.negation.ensures c.in-Some.ensures
    c.loop-lit.invariant

pub returns : goal.returns
returns c = λ e.
    subst (All (λ (k : Literal). Contains c.args.assumptions.now (negation k)))
    (take_all c.loop-lit.lit-index c.args.lits.now (omega (arith, c.loop-lit-test.false)))
    c.loop-lit.invariant
