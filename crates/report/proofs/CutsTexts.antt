-- What the writer of a certificate has, behind what was written before.
use Rattle.std.proofs.Common.{◌≡◌, ℕ, ◌<◌, ◌≤◌, true, List, [], ◌++◌, Option, Some, None, Ok, refl}
use Rattle.std.proofs.Common.{sym, ◌∙◌, ap, subst, arith, inl, append-nil}
use Rattle.std.specs.Prelude.{IfSome, IfOk, IfErr, IsOk, Result}
use Rattle.std.specs.Io.KnownBytes.{Appends, Keeps}
use Rattle.std.proofs.KnownBytes.{Appends-kept, Appends-nil}
use Rattle.std.proofs.lemmas.Option.{IfSome_then}
use Rattle.cnf.specs.Instance.{IsInstance}
use Rattle.cnf.specs.Problem.{Problem}
use Rattle.cnf.specs.declared.limits.TheConstants.{NUMBER_LIMIT}
use Rattle.text.specs.Text.{token_lines}
use Rattle.wcnf.specs.Wcnf.{Reads}
use Rattle.lrat_cuts.specs.Cuts.{CutsState, cuts_start}
use Rattle.lrat_cuts.specs.Verdict.{ended_part, judged_text}
use Rattle.lrat_cuts.proofs.Laws.{cuts_prove, cuts_sound, right_up_to}
use Rattle.lrat_check.specs.Checks.{CostsAtLeast}
use Rattle.cuts_log.specs.Judging.{IsEarlier}
use Rattle.cuts_log.specs.Logs.{LogState, problem_of, start_of}
use Rattle.cuts_log.specs.Starts.{IsReached}
use Rattle.cuts_solver.specs.Solving.{SolverState, HasWritten, HasBegunToWrite, IsRightText}
use Rattle.cuts_solver.specs.Solving.{instance_of}
use Rattle.improve_found.specs.Solutions.{IsSolution}
use Rattle.improve_found.specs.declared.solutions.Solution.{Solution}
use Rattle.improve_found.proofs.Laws.{cost_of_solution, cost_small}
use Rattle.improve_cuts.specs.ByCuts.{BeginsWith, SameOrigin}
use Rattle.cdcl_order.specs.Budgets.{BudgetState}
use Rattle.report_text.specs.declared.status.CutsStatus.{CutsStatus}
use Rattle.report_text.specs.declared.fault.RunFault.{RunFault}
use Rattle.report.specs.ByCuts.{EndsBehind, GrowsRightly, LeavesBehind}
use Rattle.report.specs.Earlier.{IsRightUpTo}

-- of a solver that has gone on from a start
module _ (p : Problem) (start now : SolverState) (same : SameOrigin start now) where
  module _ (its : instance_of start ≡ p) (front : List ℕ)
      (b : IsEarlier (problem_of start.log) (start_of start.log) front) where
    still_before : IsEarlier (problem_of now.log) (start_of now.log) front
    still_before = record {
      judged = ap (λ q. judged_text None q front) same.instance ∙ b.judged
          ∙ ap Ok (sym same.start);
      ended = b.ended;
    }

    pub whole_text : (mid : Option (List ℕ)) → HasWritten now mid
        → (proved : List ℕ) × Appends (((start.log).book).seen).origin mid proved
        × IsRightText p (now.log).cost now.refuted (front ++ proved)
    whole_text mid w = (
      w.0,
      subst (λ o. Appends o mid w.0) same.origin w.1,
      subst (λ q. IsRightText q (now.log).cost now.refuted (front ++ w.0)) (same.instance ∙ its)
          (w.2 front still_before),
    )

    pub begun_text : (text : Option (List ℕ))
        → IfSome text (λ bytes. (q : Problem) → Reads bytes q → q ≡ p) → (mid : Option (List ℕ))
        → HasBegunToWrite now mid
        → GrowsRightly front text (((start.log).book).seen).origin mid
    begun_text text only mid w =
        let all = front ++ ended_part w.0 in
        let right : IsOk (judged_text None p all) =
        subst (λ q. IsOk (judged_text None q all)) (same.instance ∙ its)
        (subst IsOk (sym (w.2 front still_before None tt).1) refl) in record {
          proved = w.0;
          proof_grows = subst (λ o. Appends o mid w.0) same.origin w.1;
          right = IfSome_then text only (λ bytes one q reads _.
              subst (λ z. IsOk (judged_text None z all)) (sym (one q reads)) right);
        }

-- the same of what was begun with, under other names
module _ {W : Type 0} (contents : W → Option (List ℕ)) (writer : Option W)
    (ended : Result CutsStatus RunFault) (front : List ℕ) (text out out' : Option (List ℕ))
    (new : BudgetState) (u v : Option (List ℕ)) (same : u ≡ v) where
  pub ends_as : (old : BudgetState) (k l : ℕ) → k ≡ l
      → IfOk ended (λ status. IfSome writer
      (λ w. EndsBehind front k text out out' u (contents w) status old new))
      → IfOk ended (λ status. IfSome writer
      (λ w. EndsBehind front l text out out' v (contents w) status old new))
  ends_as old k l limit h =
      subst (λ z. IfOk ended (λ status. IfSome writer
      (λ w. EndsBehind front l text out out' z (contents w) status old new))) same
      (subst (λ z. IfOk ended (λ status. IfSome writer
      (λ w. EndsBehind front z text out out' u (contents w) status old new))) limit h)

  pub leaves_as : IfErr ended (λ fault. IfSome writer
      (λ w. LeavesBehind front fault text out out' u (contents w) new))
      → IfErr ended (λ fault. IfSome writer
      (λ w. LeavesBehind front fault text out out' v (contents w) new))
  leaves_as h =
      subst (λ z. IfErr ended (λ fault. IfSome writer
      (λ w. LeavesBehind front fault text out out' z (contents w) new))) same h

-- nothing stands before the first line
pub nothing_before : (l : LogState) → start_of l ≡ cuts_start (problem_of l)
    → IsEarlier (problem_of l) (start_of l) []
nothing_before l e = record { judged = ap Ok (sym e); ended = inl refl }

-- these lines do
pub earlier_before : (l : LogState) (p : Problem) (s : CutsState) (front : List ℕ)
    → problem_of l ≡ p → start_of l ≡ s → IsEarlier p s front
    → IsEarlier (problem_of l) (start_of l) front
earlier_before l p s front u v e = record {
  judged = ap (λ q. judged_text None q front) u ∙ e.judged ∙ ap Ok (sym v);
  ended = e.ended;
}

-- a search may begin with any solution, where cuts hold in all
pub begins_fresh : (p : Problem) (held : ℕ) (first : Option Solution) → IsInstance p
    → held ≡ NUMBER_LIMIT → IfSome first (λ b. IsSolution p (b.bits).items b.cost)
    → BeginsWith p held first
begins_fresh p held None limits most h = most
begins_fresh p held (Some b) limits most h =
    let small = cost_small p b.cost limits (cost_of_solution p (b.bits).items b.cost h) in
    (h, omega (arith, small, most), omega (arith, most))

-- where the lines have ended that were read
module _ (p : Problem) (s : CutsState) (some : 0 < s.worth) (ended : s.ended ≡ true) where
  pub right_where_ended : (front : List ℕ) → IsEarlier p s front → IsRightUpTo p s.worth front
  right_where_ended front e cost le =
      (s, right_up_to cost (token_lines front) (cuts_start p) s 1 some le e.judged, ended)

  pub least_where_ended : IsInstance p → s.worth ≤ NUMBER_LIMIT → IsReached p s
      → CostsAtLeast p s.worth
  least_where_ended limits most r u f =
      let up = right_up_to s.worth r.0 (cuts_start p) s 1 some (omega arith) r.1 in
      let enough = cuts_prove p s.worth r.0 s most up ended in
      let least = cuts_sound p (Some s.worth) r.0 s limits up u f in
      omega (arith, enough, least)

-- where it is right for the cost 0, there is no other cost up to that
pub zero_up_to : (p : Problem) (front : List ℕ) → IsRightText p 0 true front
    → IsRightUpTo p 0 front
zero_up_to p front right cost le =
    let is : 0 ≡ cost = omega (arith, le) in
    subst (λ z. IsRightText p z true front) is right

-- and no line follows
pub nothing_behind : (p : Problem) (limit held : ℕ) (front : List ℕ) (proof : Option (List ℕ))
    → IsRightUpTo p limit front → held ≤ limit
    → (proved : List ℕ) × Appends proof proof proved × IsRightText p held true (front ++ proved)
nothing_behind p limit held front proof up le = (
  [],
  Appends-nil proof,
  subst (IsRightText p held true) (sym (append-nil front)) (up held le),
)

pub nothing_grown : (front : List ℕ) (text proof : Option (List ℕ))
    → GrowsRightly front text proof proof
nothing_grown front text proof = record {
  proved = [];
  proof_grows = Appends-nil proof;
  right = by text;
}
  where
    by : (t : Option (List ℕ)) → IfSome t (λ bytes. (p : Problem) → Reads bytes p
        → IsOk (judged_text None p front) → IsOk (judged_text None p (front ++ [])))
    by None = tt
    by (Some bytes) = λ p reads h.
        subst (λ x. IsOk (judged_text None p x)) (sym (append-nil front)) h

-- what is kept of it
pub grown_kept : (front : List ℕ) (text proof mid proof' : Option (List ℕ))
    → GrowsRightly front text proof mid → Keeps mid proof' → GrowsRightly front text proof proof'
grown_kept front text proof mid proof' g k = record {
  proved = g.proved;
  proof_grows = Appends-kept proof mid proof' g.proved g.proof_grows k;
  right = g.right;
}
