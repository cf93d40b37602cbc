-- What a search leaves, from what its progress was told.
use Rattle.std.proofs.Common.{◌≡◌, ℕ, ◌+◌, ◌<◌, ◌^◌, Bool, true, false, List, [], ◌∷◌, ◌++◌, Option}
use Rattle.std.proofs.Common.{Result, Ok, Err, length, refl, sym, ◌∙◌, ap, subst, arith}
use Rattle.std.specs.Prelude.{All, IfOk}
use Rattle.std.proofs.lemmas.List.Elements.{All-weaker}
use Rattle.cnf.specs.Problem.{Problem}
use Rattle.cnf.specs.Instance.{IsInstance}
use Rattle.text.specs.Writing.{AppendsPart}
use Rattle.std.specs.Io.KnownBytes.{Appends}
use Rattle.std.proofs.KnownBytes.{Appends-nil}
use Rattle.adder.specs.declared.profiles.Profile.{Profile}
use Rattle.cdcl_order.specs.Budgets.{BudgetState}
use Rattle.cdcl_order.specs.Watch.{Sight}
use Rattle.improve_found.specs.declared.found.Found.{Found}
use Rattle.improve_found.specs.declared.found.ImproveFault.{ImproveFault}
use Rattle.improve_found.specs.declared.found.ImproveFault.TheVariants.{Memory as SearchMemory}
use Rattle.improve_found.specs.declared.found.ImproveFault.TheVariants.{Progress}
use Rattle.improve_found.specs.Progress.{Telling, AreFalling}
use Rattle.improve_found.specs.Solutions.{IsCostOfSome}
use Rattle.improve.specs.Improving.{IsRightFound, Improves}
use Rattle.improve_found.specs.Watch.{AreShown, costs_shown}
use Rattle.improve_found.proofs.Laws.{cost_small, told_fall, told_each}
use Rattle.report_text.specs.declared.fault.RunFault.{RunFault}
use Rattle.report_text.specs.declared.fault.RunFault.TheVariants.{Memory, Output}
use Rattle.report_text.specs.Told.{Tells, cost_lines, fault_of_telling}
use Rattle.report.specs.Running.{HasLines, Searches, outcome_of}
use Rattle.report.specs.Seen.{IsShownFor}

pub costs_small : (p : Problem) (costs : List ℕ) → IsInstance p → All (IsCostOfSome p) costs
    → All (λ c. c < 2 ^ 62) costs
costs_small p costs h all =
    All-weaker (IsCostOfSome p) (λ c. c < 2 ^ 62) (λ c k. cost_small p c h k) costs all

module _ (profile : Profile) (p : Problem) (limits : IsInstance p) (old new : Telling)
    (budget left : BudgetState) (out out' : Option (List ℕ)) (no_memory : Bool)
    (none : old.told ≡ []) (fresh : old.failures ≡ 0)
    (tells : Tells out out' new.told new.failed no_memory new.failures) where
  told_is : (result : Result Found ImproveFault) (i : Improves profile p result old new budget left)
      → new.told ≡ i.told
  told_is result i = i.tells ∙ ap (λ z. z ++ i.told) none

  search_found : (found : Found) → Improves profile p (Ok found) old new budget left
      → Searches profile p (Ok found) out out' budget left
  search_found found i =
      let same : new.told ≡ i.tried = told_is (Ok found) i ∙ sym i.tells_of in
      let ended : new.failures ≡ 0 = i.no_failure (λ e. absurd (cc)) ∙ fresh in
      record {
        tried = i.tried;
        falling = i.falling;
        honest = i.honest;
        small = costs_small p i.tried limits i.honest;
        lines = subst (λ z. Appends out out' (cost_lines z)) same (tells.all_told ended);
        found = subst (λ z. IsRightFound profile p z found) (sym i.tells_of) i.found;
        same_limit = i.same_limit;
        answers = i.answers ∙ ap (λ z. budget.answers + length z) (sym i.tells_of);
        learned = i.learned;
        spent = i.spent;
      }

  -- where something was found, what was shown is what was told
  shown_found : (found : Found) (a b : Option (List Sight))
      → Improves profile p (Ok found) old new budget left → AreShown p old new a b
      → IsShownFor profile p found out out' a b
  shown_found found a b i s =
      let same : new.failures ≡ old.failures = i.no_failure (λ e. absurd (cc)) in
      let costs = costs_shown s.solutions in
      let told : new.told ≡ costs = s.told same ∙ ap (λ z. z ++ costs) none in
      record {
        solutions = s.solutions;
        each = s.each;
        seen = s.seen;
        lines = subst (λ z. Appends out out' (cost_lines z)) told (tells.all_told (same ∙ fresh));
        right = subst (λ z. IsRightFound profile p z found) (sym (told_is (Ok found) i) ∙ told)
            i.found;
      }

  pub search_shown : (result : Result Found ImproveFault) (a b : Option (List Sight))
      → Improves profile p result old new budget left → AreShown p old new a b
      → IfOk (outcome_of result (fault_of_telling no_memory))
      (λ found. IsShownFor profile p found out out' a b)
  search_shown (Ok found) a b i s = shown_found found a b i s
  search_shown (Err SearchMemory) a b i s = tt
  search_shown (Err Progress) a b i s = tt

  search_fault : (fault : RunFault) (tried : List ℕ) → left.limit ≡ budget.limit → AreFalling tried
      → All (IsCostOfSome p) tried → HasLines (Err fault) tried out out'
      → Searches profile p (Err fault) out out' budget left
  search_fault fault tried same falling honest lines = record {
    tried = tried;
    falling = falling;
    honest = honest;
    small = costs_small p tried limits honest;
    lines = lines;
    found = tt;
    same_limit = same;
    answers = tt;
    learned = tt;
    spent = tt;
  }

  search_memory : Improves profile p (Err SearchMemory) old new budget left
      → Searches profile p (Err Memory) out out' budget left
  search_memory i =
      let same : new.told ≡ i.tried = told_is (Err SearchMemory) i ∙ sym i.tells_of in
      let ended : new.failures ≡ 0 = i.no_failure (λ e. absurd (cc)) ∙ fresh in
      search_fault Memory i.tried i.same_limit i.falling i.honest
      (subst (λ z. Appends out out' (cost_lines z)) same (tells.all_told ended))

  failed_once : (i : Improves profile p (Err Progress) old new budget left) → new.failures ≡ 1
  failed_once i = i.progress refl ∙ ap (λ n. n + 1) fresh

  search_refused : Improves profile p (Err Progress) old new budget left → no_memory ≡ true
      → Searches profile p (Err Memory) out out' budget left
  search_refused i e =
      search_fault Memory i.told i.same_limit
      (told_fall (Err Progress) i.tried i.told new.failed i.tells_of i.falling)
      (told_each (IsCostOfSome p) (Err Progress) i.tried i.told new.failed i.tells_of i.honest)
      (subst (λ z. Appends out out' (cost_lines z)) (told_is (Err Progress) i)
      (tells.refused (failed_once i) e))

  search_broke : Improves profile p (Err Progress) old new budget left → no_memory ≡ false
      → Searches profile p (Err Output) out out' budget left
  search_broke i e =
      let t = i.tells_of in
      let same : new.told ++ t.last ∷ [] ≡ i.tried =
      ap (λ z. z ++ t.last ∷ []) (told_is (Err Progress) i) ∙ sym t.tried_is in
      search_fault Output i.tried i.same_limit i.falling i.honest (
        subst (λ z. AppendsPart out out' (cost_lines z)) same
            (tells.broken t.last (failed_once i) e t.last_failed),
        (t.last, (i.told, t.tried_is)),
      )

  search_failed : Improves profile p (Err Progress) old new budget left
      → Searches profile p (Err (fault_of_telling no_memory)) out out' budget left
  search_failed i =
      elim no_memory as (λ b. no_memory ≡ b
      → Searches profile p (Err (fault_of_telling b)) out out' budget left) [
        | true ↦ λ e. search_refused i e
        | false ↦ λ e. search_broke i e
      ] refl

  pub search_ended : (result : Result Found ImproveFault)
      → Improves profile p result old new budget left
      → Searches profile p (outcome_of result (fault_of_telling no_memory)) out out' budget left
  search_ended (Ok found) i = search_found found i
  search_ended (Err SearchMemory) i = search_memory i
  search_ended (Err Progress) i = search_failed i

-- nothing was told at first
pub tells_none : (a : Option (List ℕ)) (costs : List ℕ) (failed : Option ℕ) (no_memory : Bool)
    (failures : ℕ) → (costs ≡ []) × (failures ≡ 0) → Tells a a costs failed no_memory failures
tells_none a costs failed no_memory failures n =
    let all : Appends a a (cost_lines costs) =
    subst (λ z. Appends a a (cost_lines z)) (sym n.0) (Appends-nil a) in
    record {
      all_told = λ z. all;
      refused = λ z m. all;
      broken = λ k z m s. absurd (omega (arith, n.1));
    }
