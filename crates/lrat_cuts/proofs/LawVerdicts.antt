-- What verdicts on certificates of forms and cuts mean.
use Rattle.std.proofs.Common.{◌≡◌, ℕ, ◌≤◌, true, false, List, Some, None, Ok, Err, arith}
use Rattle.std.proofs.Common.{refl}
use Rattle.cnf.specs.Literal.{Assignment}
use Rattle.cnf.specs.Problem.{Problem, IsFeasible, IsInconsistent, cost_under}
use Rattle.cnf.specs.Instance.{IsInstance}
use Rattle.cnf.specs.declared.limits.TheConstants.{NUMBER_LIMIT}
use Rattle.text.specs.Text.{token_lines}
use Rattle.bound.proofs.Laws.{solution_small}
use Rattle.lrat_machine.specs.declared.verdicts.Verdict.TheVariants.{No, Yes}
use Rattle.lrat_cuts.specs.Verdict.{cuts_lower, cuts_verdict, ended_part, judged_text}
use Rattle.lrat_cuts.specs.declared.verdicts.LowerVerdict.TheVariants.{AtLeast}
use Rattle.lrat_cuts.specs.declared.verdicts.LowerVerdict.TheVariants.{No as NotRight}
use Rattle.lrat_machine.specs.declared.verdicts.Cause.{Cause}
use Rattle.lrat_cuts.proofs.LawSound.{cuts_sound}
use Rattle.lrat_cuts.proofs.LawWorth.{cuts_prove}

differ : {f : Cause} {n : ℕ} → No f n ≡ Yes → ⊥
differ e = cc

unlike : {f : Cause} {n m : ℕ} → NotRight f n ≡ AtLeast m → ⊥
unlike e = cc

same_bound : {m n : ℕ} → AtLeast m ≡ AtLeast n → m ≡ n
same_bound e = cc

module _ (p : Problem) (i : IsInstance p) where
  -- where a certificate for a cost is accepted, no solution costs less
  pub accepted_least : (cost : ℕ) (bytes : List ℕ) → cost ≤ NUMBER_LIMIT
      → cuts_verdict (Some cost) p bytes ≡ Yes → (u : Assignment) → IsFeasible p u
      → cost ≤ cost_under p u
  accepted_least cost bytes le e u feasible =
      elim (judged_text (Some cost) p bytes)
      as (λ r. judged_text (Some cost) p bytes ≡ r → cost ≤ cost_under p u) [
        | Err f ↦ λ q. absurd (differ (rw q at e))
        | Ok s ↦ λ q.
            elim s.ended as (λ b. s.ended ≡ b → cost ≤ cost_under p u) [
              | false ↦ λ r. absurd (differ (rw (q, r) at e))
              | true ↦ λ r.
                  let most = cuts_prove p cost (token_lines bytes) s le q r in
                  let least = cuts_sound p (Some cost) (token_lines bytes) s i q u feasible in
                  omega (arith, most, least)
            ] refl
      ] refl

  -- and where the cost is more than any, there is none
  pub accepted_none : (bytes : List ℕ) → cuts_verdict (Some NUMBER_LIMIT) p bytes ≡ Yes
      → IsInconsistent p
  accepted_none bytes e t feasible =
      let least = accepted_least NUMBER_LIMIT bytes (omega arith) e t feasible in
      omega (arith, least, solution_small p i t)

  -- the lower bound that lines prove
  pub lower_least : (bytes : List ℕ) (n : ℕ) → cuts_lower p bytes ≡ AtLeast n
      → (u : Assignment) → IsFeasible p u → n ≤ cost_under p u
  lower_least bytes n e u feasible =
      elim (judged_text None p (ended_part bytes))
      as (λ r. judged_text None p (ended_part bytes) ≡ r → n ≤ cost_under p u) [
        | Err f ↦ λ q. absurd (unlike (rw q at e))
        | Ok s ↦ λ q.
            let least = cuts_sound p None (token_lines (ended_part bytes)) s i q u feasible in
            let is = same_bound (rw q at e) in
            omega (arith, least, is)
      ] refl
