-- What a search by forms and cuts leaves, from what its progress was told.
use Rattle.std.proofs.Common.{◌≡◌, ℕ, ◌+◌, Bool, true, false, List, [], ◌∷◌, ◌++◌, Option, Result}
use Rattle.std.proofs.Common.{Ok, Err, length, refl, sym, ◌∙◌, ap, subst}
use Rattle.std.specs.Prelude.{All, IfOk}
use Rattle.std.specs.Io.KnownBytes.{Appends}
use Rattle.cnf.specs.Problem.{Problem}
use Rattle.cnf.specs.Instance.{IsInstance}
use Rattle.text.specs.Writing.{AppendsPart}
use Rattle.cdcl_order.specs.Budgets.{BudgetState}
use Rattle.cdcl_order.specs.Watch.{Sight}
use Rattle.improve_found.specs.declared.found.ImproveFault.{ImproveFault}
use Rattle.improve_found.specs.declared.found.ImproveFault.TheVariants.{Memory as SearchMemory}
use Rattle.improve_found.specs.declared.found.ImproveFault.TheVariants.{Progress}
use Rattle.improve_found.specs.Progress.{Telling, AreFalling}
use Rattle.improve_found.specs.Solutions.{IsCostOfSome}
use Rattle.improve_found.specs.Watch.{AreShown, costs_shown}
use Rattle.improve_found.proofs.Laws.{told_fall, told_each}
use Rattle.improve_cuts.specs.ByCuts.{FindsByCuts, IsCutsFound}
use Rattle.improve_found.specs.declared.found.CutsFound.{CutsFound}
use Rattle.report_text.specs.declared.fault.RunFault.{RunFault}
use Rattle.report_text.specs.declared.fault.RunFault.TheVariants.{Memory, Output, ProofOutput}
use Rattle.report_text.specs.Told.{Tells, cost_lines, fault_of_telling}
use Rattle.report.specs.ByCuts.{HasTriedLines, SearchesByCuts, IsShownByCuts, cuts_outcome}
use Rattle.report.specs.ByCuts.{memory_fault}
use Rattle.report.proofs.Searched.{costs_small}

module _ (p : Problem) (limit : ℕ) (refuted : Bool) (held : ℕ) (limits : IsInstance p)
    (old new : Telling)
    (budget left : BudgetState) (out out' : Option (List ℕ)) (no_memory : Bool)
    (none : old.told ≡ []) (fresh : old.failures ≡ 0)
    (tells : Tells out out' new.told new.failed no_memory new.failures) where
  told_is : (result : Result CutsFound ImproveFault)
      (i : FindsByCuts p limit result refuted held old new budget left) → new.told ≡ i.told
  told_is result i = i.tells ∙ ap (λ z. z ++ i.told) none

  search_found : (found : CutsFound)
      → FindsByCuts p limit (Ok found) refuted held old new budget left
      → SearchesByCuts p limit (Ok found) refuted held out out' budget left
  search_found found i =
      let same : new.told ≡ i.tried = told_is (Ok found) i ∙ sym i.tells_of in
      let ended : new.failures ≡ 0 = i.no_failure (λ e. absurd (cc)) ∙ fresh in
      record {
        tried = i.tried;
        falling = i.falling;
        honest = i.honest;
        small = costs_small p i.tried limits i.honest;
        lines = subst (λ z. Appends out out' (cost_lines z)) same (tells.all_told ended);
        found = subst (λ z. IsCutsFound p limit z found refuted held left) (sym i.tells_of) i.found;
        same_limit = i.same_limit;
        answers = i.answers ∙ ap (λ z. budget.answers + length z) (sym i.tells_of);
      }

  -- where something was found, what was shown is what was told
  shown_found : (found : CutsFound) (a b : Option (List Sight))
      → FindsByCuts p limit (Ok found) refuted held old new budget left → AreShown p old new a b
      → IsShownByCuts p limit found refuted held out out' left a b
  shown_found found a b i h =
      let same : new.failures ≡ old.failures = i.no_failure (λ e. absurd (cc)) in
      let costs = costs_shown h.solutions in
      let told : new.told ≡ costs = h.told same ∙ ap (λ z. z ++ costs) none in
      let tried : i.tried ≡ costs = i.tells_of ∙ sym (told_is (Ok found) i) ∙ told in
      record {
        solutions = h.solutions;
        each = h.each;
        seen = h.seen;
        falling = subst AreFalling tried i.falling;
        small = costs_small p costs limits (subst (All (IsCostOfSome p)) tried i.honest);
        lines = subst (λ z. Appends out out' (cost_lines z)) told (tells.all_told (same ∙ fresh));
        right = subst (λ z. IsCutsFound p limit z found refuted held left)
            (sym (told_is (Ok found) i) ∙ told) i.found;
      }

  pub search_shown : (result : Result CutsFound ImproveFault) (write_failed : Bool)
      (a b : Option (List Sight)) → FindsByCuts p limit result refuted held old new budget left
      → AreShown p old new a b
      → IfOk (cuts_outcome result (fault_of_telling no_memory) write_failed)
      (λ found. IsShownByCuts p limit found refuted held out out' left a b)
  search_shown (Ok found) w a b i h = shown_found found a b i h
  search_shown (Err SearchMemory) w a b i h = tt
  search_shown (Err Progress) w a b i h = tt

  search_fault : (fault : RunFault) (tried : List ℕ) → left.limit ≡ budget.limit → AreFalling tried
      → All (IsCostOfSome p) tried → HasTriedLines (Err fault) tried out out'
      → SearchesByCuts p limit (Err fault) refuted held out out' budget left
  search_fault fault tried same falling honest lines = record {
    tried = tried;
    falling = falling;
    honest = honest;
    small = costs_small p tried limits honest;
    lines = lines;
    found = tt;
    same_limit = same;
    answers = tt;
  }

  -- the lines are whole
  tried_lines : FindsByCuts p limit (Err SearchMemory) refuted held old new budget left
      → (write_failed : Bool)
      → SearchesByCuts p limit (Err (memory_fault write_failed)) refuted held out out' budget left
  tried_lines i w =
      let same : new.told ≡ i.tried = told_is (Err SearchMemory) i ∙ sym i.tells_of in
      let ended : new.failures ≡ 0 = i.no_failure (λ e. absurd (cc)) ∙ fresh in
      let lines : Appends out out' (cost_lines i.tried) =
      subst (λ z. Appends out out' (cost_lines z)) same (tells.all_told ended) in
      elim w as (λ b. SearchesByCuts p limit (Err (memory_fault b)) refuted held out out' budget
      left) [
        | true ↦ search_fault ProofOutput i.tried i.same_limit i.falling i.honest lines
        | false ↦ search_fault Memory i.tried i.same_limit i.falling i.honest lines
      ]

  failed_once : (i : FindsByCuts p limit (Err Progress) refuted held old new budget left)
      → new.failures ≡ 1
  failed_once i = i.progress refl ∙ ap (λ n. n + 1) fresh

  search_refused : FindsByCuts p limit (Err Progress) refuted held old new budget left
      → no_memory ≡ true
      → SearchesByCuts p limit (Err Memory) refuted held out out' budget left
  search_refused i e =
      search_fault Memory i.told i.same_limit
      (told_fall (Err Progress) i.tried i.told new.failed i.tells_of i.falling)
      (told_each (IsCostOfSome p) (Err Progress) i.tried i.told new.failed i.tells_of i.honest)
      (subst (λ z. Appends out out' (cost_lines z)) (told_is (Err Progress) i)
      (tells.refused (failed_once i) e))

  search_broke : FindsByCuts p limit (Err Progress) refuted held old new budget left
      → no_memory ≡ false
      → SearchesByCuts p limit (Err Output) refuted held out out' budget left
  search_broke i e =
      let t = i.tells_of in
      let same : new.told ++ t.last ∷ [] ≡ i.tried =
      ap (λ z. z ++ t.last ∷ []) (told_is (Err Progress) i) ∙ sym t.tried_is in
      search_fault Output i.tried i.same_limit i.falling i.honest (
        subst (λ z. AppendsPart out out' (cost_lines z)) same
            (tells.broken t.last (failed_once i) e t.last_failed),
        (t.last, (i.told, t.tried_is)),
      )

  search_failed : FindsByCuts p limit (Err Progress) refuted held old new budget left
      → SearchesByCuts p limit (Err (fault_of_telling no_memory)) refuted held out out' budget left
  search_failed i =
      elim no_memory as (λ b. no_memory ≡ b
      → SearchesByCuts p limit (Err (fault_of_telling b)) refuted held out out' budget left) [
        | true ↦ λ e. search_refused i e
        | false ↦ λ e. search_broke i e
      ] refl

  pub search_ended : (result : Result CutsFound ImproveFault) (write_failed : Bool)
      → FindsByCuts p limit result refuted held old new budget left
      → SearchesByCuts p limit (cuts_outcome result (fault_of_telling no_memory) write_failed)
      refuted held out out' budget left
  search_ended (Ok found) w i = search_found found i
  search_ended (Err SearchMemory) w i = tried_lines i w
  search_ended (Err Progress) w i = search_failed i
