use Rattle.std.proofs.Common.{rules, ◌≡◌, false, Some, subst, ◌⊎◌}
use Rattle.std.specs.Prelude.{All}
use Rattle.cnf.specs.Literal.{Literal}
use Rattle.std.proofs.lemmas.List.{take_all}
use Rattle.propagate_trail.specs.Trail.{value_in}
use Rattle.propagate.proofs.Searches.{all_read}
use Rattle.propagate.proofs.not_false.find_other_not_false.Goals as goal

pub loop-lit-preserved : goal.loop-lit-preserved
loop-lit-preserved c =
    let P : Literal → Type 0 =
    λ l. (l ≡ c.args.but) ⊎ (value_in c.args.trail.now.assigned l ≡ Some false) in
    let here : P c.lit-item.result = search rules in
    all_read P c.args.lits.now c.loop-lit.lit-index c.lit-item.result c.loop-lit-test.true
    c.lit-item.is c.loop-lit.invariant here

pub returns : goal.returns
returns c = subst
    (All (λ (l : Literal). (l ≡ c.args.but)
    ⊎ (value_in c.args.trail.now.assigned l ≡ Some false)))
    (take_all c.loop-lit.lit-index c.args.lits.now c.loop-lit-test.false) c.loop-lit.invariant
