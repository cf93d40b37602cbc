-- The first fault of a solution, by what its bits are.
use Rattle.std.proofs.Common.{◌≡◌, ℕ, Bool, true, false, List, length, Some, None, inl, inr, refl}
use Rattle.std.proofs.Common.{sym, ◌∙◌, ap}
use Rattle.std.specs.Prelude.{◌↔◌, IsTrue}
use Rattle.std.specs.List.{list_all}
use Rattle.std.proofs.lemmas.Bool.{ne_eqb, eq-eqb, cases_Bool}
use Rattle.std.proofs.lemmas.List.Elements.{All-from_recursion, recursion_from_All}
use Rattle.cnf.specs.Literal.{Assignment}
use Rattle.cnf.specs.Bits.{Extends, assignment_of}
use Rattle.cnf.proofs.Laws.{extends_own}
use Rattle.cnf.specs.Clause.{clause_value}
use Rattle.cnf.specs.Problem.{Problem, IsFeasible, cost_under}
use Rattle.lrat_result.specs.Result.{Report}
use Rattle.lrat_machine.specs.declared.verdicts.Cause.TheVariants.{BitsLength, NotFeasible}
use Rattle.lrat_machine.specs.declared.verdicts.Cause.TheVariants.{CostWrong}
use Rattle.lrat_machine.specs.declared.verdicts.Verdict.TheVariants.{No}
use Rattle.lrat_check.specs.Verdict.{bits_fault}
use Rattle.lrat_check.proofs.Checked.{feasible_from, feasible_to}

module _ (p : Problem) (r : Report) (c : ℕ) (bits : List Bool) where
  pub fault_length : (length bits ≡ p.variables → ⊥)
      → bits_fault p r c bits ≡ Some (No BitsLength r.bits_line)
  fault_length n = rw (ne_eqb (length bits) p.variables n) refl

  all_true : IsFeasible p (assignment_of bits)
      → list_all (clause_value (assignment_of bits)) p.hard ≡ true
  all_true f = feasible_to (assignment_of bits) p.hard (recursion_from_All _ p.hard f)

  not_all : (IsFeasible p (assignment_of bits) → ⊥)
      → list_all (clause_value (assignment_of bits)) p.hard ≡ false
  not_all n = elim (cases_Bool (list_all (clause_value (assignment_of bits)) p.hard)) [
    | inl y ↦ absurd (n (All-from_recursion _ p.hard (feasible_from (assignment_of bits) p.hard y)))
    | inr f ↦ f
  ]

  pub fault_feasible : length bits ≡ p.variables → (IsFeasible p (assignment_of bits) → ⊥)
      → bits_fault p r c bits ≡ Some (No NotFeasible r.bits_line)
  fault_feasible e n = rw (eq-eqb (length bits) p.variables e, not_all n) refl

  pub fault_cost : length bits ≡ p.variables → IsFeasible p (assignment_of bits)
      → (cost_under p (assignment_of bits) ≡ c → ⊥)
      → bits_fault p r c bits ≡ Some (No CostWrong r.cost_line)
  fault_cost e f n =
      rw (
        eq-eqb (length bits) p.variables e,
        all_true f,
        ne_eqb (cost_under p (assignment_of bits)) c n,
      ) refl

  pub fault_none : length bits ≡ p.variables → IsFeasible p (assignment_of bits)
      → cost_under p (assignment_of bits) ≡ c → bits_fault p r c bits ≡ None
  fault_none e f h =
      rw (
        eq-eqb (length bits) p.variables e,
        all_true f,
        eq-eqb (cost_under p (assignment_of bits)) c h,
      ) refl

  -- the same from what was found of the bits
  module _ (n : ℕ) (e : length bits ≡ n) (same : n ≡ p.variables) (feasible : Bool)
      (judged : (t : Assignment) → Extends bits t → IsTrue feasible ↔ IsFeasible p t) where
    own : IsTrue feasible ↔ IsFeasible p (assignment_of bits)
    own = judged (assignment_of bits) (extends_own bits)

    pub found_infeasible : feasible ≡ false → (line : ℕ) → r.bits_line ≡ line
        → Some (No NotFeasible line) ≡ bits_fault p r c bits
    found_infeasible f line at =
        sym (fault_feasible (e ∙ same) (λ h. let y = own.1 h in cc)
        ∙ ap (λ l. Some (No NotFeasible l)) at)

    module _ (cost : ℕ) (costs : (t : Assignment) → Extends bits t → cost ≡ cost_under p t)
        (f : feasible ≡ true) where
      its_cost : cost ≡ cost_under p (assignment_of bits)
      its_cost = costs (assignment_of bits) (extends_own bits)

      pub found_cost : (cost ≡ c → ⊥) → (line : ℕ) → r.cost_line ≡ line
          → Some (No CostWrong line) ≡ bits_fault p r c bits
      found_cost n line at =
          sym (fault_cost (e ∙ same) (own.0 f) (λ h. n (its_cost ∙ h))
          ∙ ap (λ l. Some (No CostWrong l)) at)

      pub found_right : cost ≡ c → None ≡ bits_fault p r c bits
      found_right is = sym (fault_none (e ∙ same) (own.0 f) (sym its_cost ∙ is))
