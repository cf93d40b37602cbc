use Rattle.std.proofs.Common.{◌≡◌, false, Some, subst}
use Rattle.std.specs.Prelude.{All}
use Rattle.cnf.specs.Literal.{Literal}
use Rattle.std.proofs.lemmas.List.{take_all}
use Rattle.propagate_trail.specs.Trail.{value_in}
use Rattle.propagate.proofs.Searches.{all_read}
use Rattle.propagate.proofs.not_false.find_not_false.Goals as goal

pub loop-lit-preserved : goal.loop-lit-preserved
loop-lit-preserved c =
    all_read (λ (l : Literal). value_in c.args.trail.now.assigned l ≡ Some false) c.args.lits.now
    c.loop-lit.lit-index c.lit-item.result c.loop-lit-test.true c.lit-item.is c.loop-lit.invariant
    (c.is_false.ensures.0 c.if-not-is_false.false)

pub returns : goal.returns
returns c = subst (All (λ (l : Literal). value_in c.args.trail.now.assigned l ≡ Some false))
    (take_all c.loop-lit.lit-index c.args.lits.now c.loop-lit-test.false) c.loop-lit.invariant
