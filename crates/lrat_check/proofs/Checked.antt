-- The verdict on a text with its result and certificate.
use Rattle.std.proofs.Common.{◌≡◌, ℕ, Bool, true, List, [], ◌∷◌, length, Some, None}
use Rattle.std.proofs.Common.{◌⊎◌, inl, inr, refl, sym, ◌∙◌}
use Rattle.std.specs.Prelude.{◌==◌, ◌↔◌, Result, Ok, Err}
use Rattle.std.specs.List.{AllByRecursion, list_all}
use Rattle.std.proofs.lemmas.Bool.{and_from, and_parts, cases_Bool, both_ways, eq-eqb, eqb-true}
use Rattle.std.proofs.lemmas.List.Elements.{All-from_recursion, recursion_from_All}
use Rattle.cnf.specs.Literal.{Literal, Assignment}
use Rattle.cnf.specs.Clause.{clause_value, Satisfies}
use Rattle.cnf.specs.Problem.{Problem, IsFeasible, cost_under}
use Rattle.cnf.specs.Bits.{assignment_of}
use Rattle.wcnf.specs.declared.faults.FaultKind.{FaultKind}
use Rattle.wcnf.specs.Reading.{reading_of, ReadingIsRight}
use Rattle.adder.specs.declared.profiles.Profile.{Profile}
use Rattle.bound.specs.Bound.{hard_cnf, bound_as}
use Rattle.bound.proofs.Laws.{bound_once, kept_once}
use Rattle.lrat_result.specs.Result.{Said, OptimumFound, Unsatisfiable, Satisfiable, Unknown}
use Rattle.lrat_result.specs.Result.{Report, report_of}
use Rattle.lrat_check.specs.Checks.{ChecksSaid, ChecksAs}
use Rattle.lrat_machine.specs.declared.verdicts.Cause.{Cause}
use Rattle.lrat_machine.specs.declared.verdicts.Cause.TheVariants.{Text, ResultForm, BitsLength}
use Rattle.lrat_machine.specs.declared.verdicts.Cause.TheVariants.{NotFeasible, CostWrong}
use Rattle.lrat_machine.specs.declared.verdicts.Cause.TheVariants.{StatusWithoutProof}
use Rattle.lrat_machine.specs.declared.verdicts.Verdict.{Verdict}
use Rattle.lrat_machine.specs.declared.verdicts.Verdict.TheVariants.{Yes, No}
use Rattle.lrat_check.specs.Verdict.{proof_verdict, bits_fault, said_verdict, verdict_as}
use Rattle.lrat_check.specs.Verdict.{CheckVerdictIsRight}
use Rattle.lrat_machine.proofs.Laws.{proof_verdict-Yes}
use Rattle.lrat_result.proofs.Laws.{says_from_report, report_from_says}

-- the bits
pub feasible_from : (t : Assignment) (cs : List (List Literal))
    → list_all (clause_value t) cs ≡ true → AllByRecursion (Satisfies t) cs
feasible_from t [] e = tt
feasible_from t (c ∷ cs) e = let h =
    and_parts (clause_value t c) (list_all (clause_value t) cs) e in (h.0, feasible_from t cs h.1)

pub feasible_to : (t : Assignment) (cs : List (List Literal)) → AllByRecursion (Satisfies t) cs
    → list_all (clause_value t) cs ≡ true
feasible_to t [] h = refl
feasible_to t (c ∷ cs) h = and_from _ _ h.0 (feasible_to t cs h.1)

abbrev BitsRight : Problem → ℕ → List Bool → Type 0
BitsRight p c bits = (length bits ≡ p.variables) × IsFeasible p (assignment_of bits)
    × (cost_under p (assignment_of bits) ≡ c)

abbrev BitsAnswer : Problem → Report → ℕ → List Bool → Type 0
BitsAnswer p r c bits = ((bits_fault p r c bits ≡ None) × BitsRight p c bits)
    ⊎ ((f : Cause) × (n : ℕ) × (bits_fault p r c bits ≡ Some (No f n)) × (BitsRight p c bits → ⊥))

bits_answer : (p : Problem) (r : Report) (c : ℕ) (bits : List Bool) → BitsAnswer p r c bits
bits_answer p r c bits =
    elim (cases_Bool (length bits == p.variables)) [
      | inr a ↦ inr (BitsLength, r.bits_line, rw a refl, λ h. both_ways _ a (eq-eqb _ _ h.0))
      | inl a ↦ elim (cases_Bool (list_all (clause_value (assignment_of bits)) p.hard)) [
        | inr b ↦ inr (
          NotFeasible,
          r.bits_line,
          rw (a, b) refl,
          λ h. both_ways _ b
              (feasible_to (assignment_of bits) p.hard (recursion_from_All _ p.hard h.1)),
        )
        | inl b ↦ elim (cases_Bool (cost_under p (assignment_of bits) == c)) [
          | inr d ↦ inr (
            CostWrong,
            r.cost_line,
            rw (a, b, d) refl,
            λ h. both_ways _ d (eq-eqb _ _ h.2),
          )
          | inl d ↦ inl (
            rw (a, b, d) refl,
            (
              eqb-true _ _ a,
              All-from_recursion _ p.hard
                  (feasible_from (assignment_of bits) p.hard b),
              eqb-true _ _ d,
            ),
          )
        ]
      ]
    ]

module _ (profile : Profile) (p : Problem) (r : Report) (proof : List ℕ) where
  pub optimum_goes : (c : ℕ) (bits : List Bool) → r.said ≡ OptimumFound c bits
      → bits_fault p r c bits ≡ None
      → said_verdict profile p r proof ≡ proof_verdict (bound_as profile p c).clauses proof
  optimum_goes c bits u v = rw (u, v) refl

  optimum_fault : (c : ℕ) (bits : List Bool) (f : Verdict) → r.said ≡ OptimumFound c bits
      → bits_fault p r c bits ≡ Some f → said_verdict profile p r proof ≡ f
  optimum_fault c bits f u v = rw (u, v) refl

  satisfiable_goes : (c : ℕ) (bits : List Bool) → r.said ≡ Satisfiable c bits
      → bits_fault p r c bits ≡ None
      → said_verdict profile p r proof ≡ No StatusWithoutProof r.status_line
  satisfiable_goes c bits u v = rw (u, v) refl

  satisfiable_fault : (c : ℕ) (bits : List Bool) (f : Verdict) → r.said ≡ Satisfiable c bits
      → bits_fault p r c bits ≡ Some f → said_verdict profile p r proof ≡ f
  satisfiable_fault c bits f u v = rw (u, v) refl

  unsat_goes : r.said ≡ Unsatisfiable
      → said_verdict profile p r proof ≡ proof_verdict (hard_cnf p).clauses proof
  unsat_goes u = rw u refl

  unknown_goes : r.said ≡ Unknown
      → said_verdict profile p r proof ≡ No StatusWithoutProof r.status_line
  unknown_goes u = rw u refl

  said_means : (said : Said) → r.said ≡ said → said_verdict profile p r proof ≡ Yes
      → ChecksSaid profile p said proof
  said_means (OptimumFound c bits) u e =
      elim (bits_answer p r c bits) [
        | inl h ↦ (
          h.1.0,
          h.1.1,
          h.1.2,
          (proof_verdict-Yes (bound_as profile p c).clauses (bound_once profile p c) proof).0
              (sym (optimum_goes c bits u h.0) ∙ e),
        )
        | inr h ↦ let z = optimum_fault c bits (No h.0 h.1) u h.2 in absurd (cc)
      ]
  said_means (Satisfiable c bits) u e =
      elim (bits_answer p r c bits) [
        | inl h ↦ let z = satisfiable_goes c bits u h.0 in cc
        | inr h ↦ let z = satisfiable_fault c bits (No h.0 h.1) u h.2 in cc
      ]
  said_means Unsatisfiable u e =
      (proof_verdict-Yes (hard_cnf p).clauses (kept_once p.hard) proof).0 (sym (unsat_goes u) ∙ e)
  said_means Unknown u e = let z = unknown_goes u in cc

  said_from : (said : Said) → r.said ≡ said → ChecksSaid profile p said proof
      → said_verdict profile p r proof ≡ Yes
  said_from (OptimumFound c bits) u h =
      elim (bits_answer p r c bits) [
        | inl k ↦ optimum_goes c bits u k.0
            ∙ (proof_verdict-Yes (bound_as profile p c).clauses (bound_once profile p c) proof).1
            h.3
        | inr k ↦ absurd (k.3 (h.0, h.1, h.2))
      ]
  said_from (Satisfiable c bits) u h = absurd h
  said_from Unsatisfiable u h =
      unsat_goes u ∙ (proof_verdict-Yes (hard_cnf p).clauses (kept_once p.hard) proof).1 h
  said_from Unknown u h = absurd h

module _ (profile : Profile) (text result proof : List ℕ) where
  pub no_text : (e : FaultKind × ℕ) → reading_of text ≡ Err e
      → verdict_as profile text result proof ≡ No Text e.1
  no_text e u = rw u refl

  pub no_report : (p : Problem) (n : ℕ) → reading_of text ≡ Ok p → report_of result ≡ Err n
      → verdict_as profile text result proof ≡ No ResultForm n
  no_report p n u v = rw (u, v) refl

  pub on_report : (p : Problem) (r : Report) → reading_of text ≡ Ok p → report_of result ≡ Ok r
      → verdict_as profile text result proof ≡ said_verdict profile p r proof
  on_report p r u v = rw (u, v) refl

  check_means : ReadingIsRight → (o : Result Problem (FaultKind × ℕ)) → reading_of text ≡ o
      → (q : Result Report ℕ) → report_of result ≡ q → verdict_as profile text result proof ≡ Yes
      → ChecksAs profile text result proof
  check_means right (Err e) u q v h = let z = no_text e u in absurd (cc)
  check_means right (Ok p) u (Err n) v h = let z = no_report p n u v in absurd (cc)
  check_means right (Ok p) u (Ok r) v h = (
    p,
    r.said,
    (right text p).1 u,
    says_from_report result r v,
    said_means profile p r proof r.said refl (sym (on_report p r u v) ∙ h),
  )

  check_from : ReadingIsRight → ChecksAs profile text result proof
      → verdict_as profile text result proof ≡ Yes
  check_from right (p, said, reads, says, h) =
      let k = report_from_says result said says in
      on_report p k.0 ((right text p).0 reads) k.1 ∙ said_from profile p k.0 proof said k.2 h

pub check_verdict_right : ReadingIsRight → CheckVerdictIsRight
check_verdict_right right profile text result proof = (
  check_means profile text result proof right (reading_of text) refl (report_of result) refl,
  check_from profile text result proof right,
)

pub yes_by : ReadingIsRight → (profile : Profile) (text result proof : List ℕ) (v : Verdict)
    → v ≡ verdict_as profile text result proof → (v ≡ Yes) ↔ ChecksAs profile text result proof
yes_by right profile text result proof v e =
    let h = check_verdict_right right profile text result proof in
    (λ y. h.0 (sym e ∙ y), λ k. e ∙ h.1 k)
