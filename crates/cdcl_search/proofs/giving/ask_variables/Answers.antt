use Rattle.std.proofs.Common.{◌<◌, subst, arith}
use Rattle.std.specs.Prelude.{All}
use Rattle.std.proofs.lemmas.List.{take_all}
use Rattle.cnf.specs.Literal.{Literal}
use Rattle.cdcl_search.proofs.Taking.{named_more}
use Rattle.cdcl_search.proofs.giving.ask_variables.Goals as goal

pub loop-lit-preserved : goal.loop-lit-preserved
loop-lit-preserved c =
    let v = c.variable.ensures in
    named_more c.args.lits.now c.loop-lit.lit-index c.lit-item.result c.loop-lit-test.true
    c.lit-item.is (subst (λ n. 0 < n) v.variable v.from_one) c.loop-lit.invariant

pub returns : goal.returns
returns c =
    subst (All (λ (k : Literal). 0 < k.variable))
    (take_all c.loop-lit.lit-index c.args.lits.now (omega (arith, c.loop-lit-test.false)))
    c.loop-lit.invariant
