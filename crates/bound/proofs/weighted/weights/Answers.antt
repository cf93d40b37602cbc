-- One soft clause more.
use Rattle.std.proofs.Common.{◌≡◌, ◌+◌, ◌<◌, All, length, map, arith, ap}
use Rattle.std.proofs.Common.{List, get_or, subst, ◌∙◌}
use Rattle.std.proofs.lemmas.Grind.{common_steps}
use Rattle.cnf.specs.Literal.{Literal}
use Rattle.std.specs.Prelude.{if◌then◌else◌}
use Rattle.cnf.specs.Instance.{IsClauseWithin}
use Rattle.cnf.proofs.Laws.{places_within}
use Rattle.adder.specs.declared.profiles.Relaxing.TheVariants.{UnitsByNegation}
use Rattle.adder.specs.Network.{Relaxed, relaxed_one}
use Rattle.adder.specs.Parts.{weight_in}
use Rattle.bound.proofs.Relaxations.{soft_within}
use Rattle.bound.proofs.WeightLimits.{limits_variables, limits_sum}
use Rattle.bound.proofs.Weights.{weights_step}
use Rattle.bound.proofs.weighted.weights.Goals as goal

pub push_weight-requires : goal.push_weight-requires
push_weight-requires c =
    let vars = c.args.instance.now.variables in
    let ss = c.soft-soft-items.result.now in
    let s = c.soft-item.result in
    let all : All (λ x. IsClauseWithin vars x.clause) ss =
    rw (c.soft-soft-items.ensures) c.vars.ensures.limits.soft_clauses in
    let w = soft_within vars ss c.loop-soft.soft-index s all c.loop-soft-test.true c.soft-item.is in
    places_within vars (length c.loop-soft.marks) s.clause
    (omega (arith, c.loop-soft.invariant.marks)) w

pub loop-soft-preserved : goal.loop-soft-preserved
loop-soft-preserved c =
    let ss = c.args.instance.now.soft in
    let same : c.soft-soft-items.result.now ≡ ss = c.soft-soft-items.ensures in
    let i = c.loop-soft.soft-index in
    let s = c.soft-item.result in
    let v = c.loop-soft.fresh in
    let lits : c.lits-lits.result.now ≡ s.clause =
    cc (c.lits-lits.ensures.lits, c.clause.ensures) in
    let one : List Literal → Relaxed =
    λ x. relaxed_one UnitsByNegation v (record { weight = s.weight; clause = x }) in
    let step =
    weights_step v c.fresh_after-fresh.result ss i s c.relaxation_lit-lit.result
    (map weight_in c.loop-soft.weights.items) (map weight_in c.push_weight.new.weights.items)
    (subst (λ x. i < length x) same c.loop-soft-test.true)
    (c.soft-item.is ∙ ap (λ x. get_or x i s) same)
    (c.relaxation_lit-lit.ensures s.weight ∙ ap (λ x. (one x).literal) lits)
    (c.fresh_after-fresh.ensures.next s.weight
    ∙ ap (λ x. (if (one x).is_fresh then v + 1 else v)) lits)
    c.in_ok-push_weight.ensures.weights in
    record {
      few = omega (arith, c.loop-soft.invariant.few, c.fresh_after-fresh.ensures.few);
      from_one = omega (arith, c.loop-soft.invariant.from_one, c.fresh_after-fresh.ensures.near);
      marks = c.push_weight.ensures.marks ∙ c.loop-soft.invariant.marks;
      whole = step ∙ c.loop-soft.invariant.whole;
    }

pub returns-clause-within : goal.returns-clause-within
returns-clause-within c =
    limits_variables c.args.instance.now c.vars.ensures.limits c.loop-soft.weights.items
    (grind (arith, common_steps))

pub returns-clause-sum : goal.returns-clause-sum
returns-clause-sum c =
    limits_sum c.args.instance.now c.vars.ensures.limits c.loop-soft.weights.items
    (grind (arith, common_steps))
