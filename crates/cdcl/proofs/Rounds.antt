-- Turns of a search: each leaves fewer.
use Rattle.std.proofs.Common.{◌≡◌, ℕ, ◌+◌, ◌-◌, ◌*◌, ◌<◌, ◌≤◌, true, false, List, length, sym, ◌∙◌}
use Rattle.std.proofs.Common.{ap, subst, arith}
use Rattle.std.proofs.Math.Nat.{mul-le-mul_left}
use Rattle.cnf.specs.Numbers.{one_if}
use Rattle.cnf.proofs.Laws.{one_if_le}
use Rattle.cdcl_order.specs.Budgets.{BudgetState, left_of}
use Rattle.cdcl_order.specs.Policies.{PolicyState}
use Rattle.lrat_log.specs.Log.{LogLine}
use Rattle.cdcl_search.specs.declared.input.Input.{Input}
use Rattle.cdcl_search.specs.declared.search.Search.{Search}
use Rattle.cdcl_search.specs.Running.{Runs, StaysOpen}
use Rattle.cdcl.specs.Turns.{rounds_left, RoundGoesOn}

rounds_fall : (a b v s t : ℕ) → a < b → s ≤ v + 1 → a * (v + 2) + s < b * (v + 2) + t
rounds_fall a b v s t less low =
    let h : (v + 2) * (a + 1) ≤ (v + 2) * b = mul-le-mul_left (v + 2) (omega arith) in
    omega (arith, h)

-- the first factor falls
falls_first : (old new : Search) (before after : BudgetState)
    → (new.engine).variables ≡ (old.engine).variables
    → 2 * left_of after + one_if (new.policy).has_learned
    < 2 * left_of before + one_if (old.policy).has_learned
    → rounds_left new after < rounds_left old before
falls_first old new before after same less =
    let v = (old.engine).variables in
    let again = one_if (new.policy).has_learned in
    let learned = one_if (old.policy).has_learned in
    subst (λ n. (2 * left_of after + again) * (n + 2) + (n + 1 - length (new.engine).trail)
    < rounds_left old before) (sym same)
    (rounds_fall (2 * left_of after + again) (2 * left_of before + learned) v
    (v + 1 - length (new.engine).trail) (v + 1 - length (old.engine).trail) less (omega arith))

-- a unit was paid
pub goes_learned : (old new : Search) (p : Input) (ls : List LogLine) (before after : BudgetState)
    → Runs new p ls → (new.engine).variables ≡ (old.engine).variables
    → after ≡ record before { learned = before.learned + 1; waived = after.waived }
    → before.waived ≤ after.waived → 0 < left_of before → RoundGoesOn old new p ls before after
goes_learned old new p ls before after r same paid more some = record {
  runs = r;
  fewer = falls_first old new before after same
      (let e : left_of after
      ≡ before.limit - after.waived - (before.learned + 1 + before.answers) = ap left_of paid in
      let low = one_if_le (new.policy).has_learned in omega arith);
}

-- and nothing was waived
pub goes_paid : (old new : Search) (p : Input) (ls : List LogLine) (before after : BudgetState)
    → Runs new p ls → (new.engine).variables ≡ (old.engine).variables
    → after ≡ record before { learned = before.learned + 1 } → 0 < left_of before
    → RoundGoesOn old new p ls before after
goes_paid old new p ls before after r same paid some =
    let kept : after.waived ≡ before.waived = ap (λ (b : BudgetState). b.waived) paid in
    goes_learned old new p ls before after r same
    (paid ∙ (λ i. record {
      limit = before.limit;
      learned = before.learned + 1;
      answers = before.answers;
      waived = sym kept i;
    }))
    (omega arith) some

-- it restarts
pub goes_restarted : (old new : Search) (p : Input) (ls : List LogLine) (budget : BudgetState)
    → Runs new p ls → (new.engine).variables ≡ (old.engine).variables
    → (old.policy).has_learned ≡ true → (new.policy).has_learned ≡ false
    → RoundGoesOn old new p ls budget budget
goes_restarted old new p ls budget r same learned none = record {
  runs = r;
  fewer = falls_first old new budget budget same
      (let one : one_if (old.policy).has_learned ≡ 1 = ap one_if learned in
      let zero : one_if (new.policy).has_learned ≡ 0 = ap one_if none in omega arith);
}

-- one more literal is true
pub goes_decided : (old new : Search) (p : Input) (ls : List LogLine) (budget : BudgetState)
    → Runs new p ls → (new.engine).variables ≡ (old.engine).variables
    → (new.policy).has_learned ≡ (old.policy).has_learned
    → length (new.engine).trail ≡ length (old.engine).trail + 1
    → length (old.engine).trail ≤ (old.engine).variables
    → RoundGoesOn old new p ls budget budget
goes_decided old new p ls budget r same learned longer within = record {
  runs = r;
  fewer =
      let first = one_if (old.policy).has_learned in
      subst (λ b. (2 * left_of budget + one_if b) * ((new.engine).variables + 2)
      + ((new.engine).variables + 1 - length (new.engine).trail) < rounds_left old budget)
      (sym learned)
      (subst (λ n. (2 * left_of budget + first) * (n + 2) + (n + 1 - length (new.engine).trail)
      < rounds_left old budget) (sym same) (omega arith));
}

-- a search that runs has a log to which lines may be added
pub open_log : (s : Search) (p : Input) (ls : List LogLine) → Runs s p ls → StaysOpen p ls
open_log s p ls r =
    let log = r.running.recorded.log in record { stays = log.stays; unrefuted = log.unrefuted }

-- before the turn literals became true
pub fewer_before : (old mid new : Search) (had left : BudgetState)
    → (mid.engine).variables ≡ (old.engine).variables → mid.policy ≡ old.policy
    → length (old.engine).trail ≤ length (mid.engine).trail
    → rounds_left new left < rounds_left mid had → rounds_left new left < rounds_left old had
fewer_before old mid new had left variables policy longer fewer =
    let first = one_if (old.policy).has_learned in
    let v = (old.engine).variables in
    let t = length (mid.engine).trail in
    let now : rounds_left new left < (2 * left_of had + first) * (v + 2) + (v + 1 - t) =
    subst (λ n. rounds_left new left < (2 * left_of had + first) * (n + 2) + (n + 1 - t)) variables
    (subst (λ (o : PolicyState). rounds_left new left
    < (2 * left_of had + one_if o.has_learned) * ((mid.engine).variables + 2)
    + ((mid.engine).variables + 1 - t)) policy fewer) in
    omega arith
