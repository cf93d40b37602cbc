-- The verdict on what was said, by the claim of an answer.
use Rattle.std.proofs.Common.{◌≡◌, ℕ, List, None, refl, sym, ◌∙◌, ap, subst}
use Rattle.std.specs.Prelude.{IfOk, Result, Ok, Err, ◌↔◌, All}
use Rattle.std.proofs.lemmas.Result.{IfOk-weaker}
use Rattle.cnf.specs.Literal.{Assignment}
use Rattle.cnf.specs.Clause.{Satisfies}
use Rattle.cnf.specs.Formula.{Cnf, IsUnsatisfiable}
use Rattle.cnf.specs.Problem.{Problem, IsFeasible}
use Rattle.wcnf.specs.Wcnf.{Reads}
use Rattle.wcnf.proofs.Laws.{reading_is_right}
use Rattle.adder.specs.declared.profiles.Profile.{Profile}
use Rattle.bound.specs.Bound.{hard_cnf, bound_as, SaysCheaper}
use Rattle.lrat_result.specs.declared.report.Report.{Report as ReadReport}
use Rattle.lrat_result.specs.declared.report.ClaimedSolution.{ClaimedSolution}
use Rattle.lrat_result.specs.declared.report.Said.TheVariants.{Optimum, Unsat}
use Rattle.lrat_machine.specs.declared.verdicts.Verdict.{Verdict}
use Rattle.lrat_machine.specs.declared.verdicts.Verdict.TheVariants.{Yes, No}
use Rattle.lrat_machine.specs.declared.verdicts.Cause.TheVariants.{ResultForm}
use Rattle.lrat_result.specs.Result.{Report, OptimumFound, report_of}
use Rattle.lrat_result.specs.Report.{reported}
use Rattle.lrat_check.specs.Checks.{CostsAtLeast, HasCost, IsTrueOf, IsTrueResult}
use Rattle.lrat_check.specs.Verdict.{bits_fault, proof_verdict, said_verdict, verdict_as}
use Rattle.lrat_check.specs.Verdict.{verdict_read}
use Rattle.lrat_check.proofs.Checked.{optimum_goes, on_report}
use Rattle.lrat_check.proofs.TrueResults.{optimal_by, optimal_least, inconsistent_by, true_by}

module _ (profile : Profile) (p : Problem) (a : ReadReport) (proof : List ℕ) where
  said_optimum : (s : ClaimedSolution) → a.said ≡ Optimum s
      → ((r : Report) → r.bits_line ≡ s.bits_line → r.cost_line ≡ s.cost.line
      → None ≡ bits_fault p r s.cost.cost s.bits.items)
      → said_verdict profile p (reported a) proof
      ≡ proof_verdict (bound_as profile p s.cost.cost).clauses proof
  said_optimum s e f =
      let line : (reported a).bits_line ≡ s.bits_line = rw e refl in
      let cost : (reported a).cost_line ≡ s.cost.line = rw e refl in
      let said : (reported a).said ≡ OptimumFound s.cost.cost s.bits.items = rw e refl in
      optimum_goes profile p (reported a) proof s.cost.cost s.bits.items said
      (sym (f (reported a) line cost))

  pub optimum_verdict : (s : ClaimedSolution) → a.said ≡ Optimum s
      → ((r : Report) → r.bits_line ≡ s.bits_line → r.cost_line ≡ s.cost.line
      → None ≡ bits_fault p r s.cost.cost s.bits.items)
      → (f : Cnf) → f ≡ bound_as profile p s.cost.cost → {E : Type 0} (result : Result Verdict E)
      → IfOk result (λ v. v ≡ proof_verdict f.clauses proof)
      → IfOk result (λ v. v ≡ said_verdict profile p (reported a) proof)
  optimum_verdict s e none f is {E} result h =
      IfOk-weaker result _ _ (λ v w. w ∙ ap (λ g. proof_verdict g.clauses proof) is
      ∙ sym (said_optimum s e none)) h

  pub optimum_sound : (s : ClaimedSolution) → a.said ≡ Optimum s
      → HasCost p s.bits.items s.cost.cost
      → SaysCheaper profile p s.cost.cost
      → (f : Cnf) → f ≡ bound_as profile p s.cost.cost → {E : Type 0} (result : Result Verdict E)
      → IfOk result (λ v. v ≡ Yes → IsUnsatisfiable f.clauses)
      → IfOk result (λ v. v ≡ Yes → IsTrueOf p (reported a).said)
  optimum_sound s e has says f is {E} result h =
      IfOk-weaker result _ _
      (λ v w yes. rw e (optimal_by profile p s.cost.cost s.bits.items says
      (subst (λ g. IsUnsatisfiable g.clauses) is (w yes)) has)) h

  pub unsat_sound : a.said ≡ Unsat
      → ((t : Assignment) → All (Satisfies t) (hard_cnf p).clauses ↔ IsFeasible p t)
      → (f : Cnf) → f ≡ hard_cnf p → {E : Type 0} (result : Result Verdict E)
      → IfOk result (λ v. v ≡ Yes → IsUnsatisfiable f.clauses)
      → IfOk result (λ v. v ≡ Yes → IsTrueOf p (reported a).said)
  unsat_sound e same f is {E} result h =
      IfOk-weaker result _ _
      (λ v w yes. rw e (inconsistent_by p same
      (subst (λ g. IsUnsatisfiable g.clauses) is (w yes)))) h

pub optimum_by_least : (p : Problem) (a : ReadReport) (s : ClaimedSolution) → a.said ≡ Optimum s
    → HasCost p s.bits.items s.cost.cost → CostsAtLeast p s.cost.cost → IsTrueOf p (reported a).said
optimum_by_least p a s e has least = rw e (optimal_least p s.cost.cost s.bits.items least has)

pub form_verdict : (text answer : List ℕ) (p : Problem) → Reads text p → (line : ℕ)
    → report_of answer ≡ Err line → (said : Problem → Report → Verdict)
    → No ResultForm line ≡ verdict_read text answer said
form_verdict text answer p reads line e said =
    let u = (reading_is_right text p).0 reads in rw (u, e) refl

module _ (profile : Profile) (text answer proof : List ℕ) (p : Problem) (reads : Reads text p) where
  pub reported_verdict : (a : ReadReport) → report_of answer ≡ Ok (reported a)
      → {E : Type 0} (result : Result Verdict E)
      → IfOk result (λ v. v ≡ said_verdict profile p (reported a) proof)
      → IfOk result (λ v. v ≡ verdict_as profile text answer proof)
  reported_verdict a e {E} result h =
      IfOk-weaker result _ _ (λ v w. w
      ∙ sym (on_report profile text answer proof p (reported a)
      ((reading_is_right text p).0 reads) e)) h

  pub reported_sound : (a : ReadReport) → report_of answer ≡ Ok (reported a)
      → {E : Type 0} (result : Result Verdict E)
      → IfOk result (λ v. v ≡ Yes → IsTrueOf p (reported a).said)
      → IfOk result (λ v. v ≡ Yes → IsTrueResult text answer)
  reported_sound a e {E} result h =
      IfOk-weaker result _ _ (λ v w yes. true_by text answer p (reported a) reads e (w yes)) h
