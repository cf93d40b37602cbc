use Rattle.std.proofs.Common.{◌≡◌, ◌-◌, ◌<◌, ℕ, subst, arith}
use Rattle.std.specs.Prelude.{◌==◌}
use Rattle.cnf.specs.Numbers.{one_if}
use Rattle.lrat_live.proofs.CountLaws.{lowered_none, lowered_more}
use Rattle.lrat_live.specs.Pages.{count_in}
use Rattle.lrat_live.proofs.counts.lower.Goals as goal

pub loop-lit-init : goal.loop-lit-init
loop-lit-init c = lowered_none (count_in c.args.counts.now) c.args.clause.now

pub loop-lit-preserved : goal.loop-lit-preserved
loop-lit-preserved c =
    let k = c.lit-item.result in
    let mid = count_in c.loop-lit.counts in
    let new = count_in c.lower.new.self in
    let positive : 0 < k.variable = omega (arith, c.index.ensures.within) in
    lowered_more (count_in c.args.counts.now) mid new c.args.clause.now c.loop-lit.lit-index k
    c.loop-lit.invariant c.loop-lit-test.true c.lit-item.is positive
    (λ p. subst (λ (n : ℕ). new p ≡ mid p - one_if (p == n))
    c.index.ensures.index (c.lower.ensures p))
