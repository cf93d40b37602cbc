-- The verdict on a text with its result and certificate. The first fault decides.
use Rattle.std.specs.Prelude.{◌≡◌, ℕ, Bool, not, List, length}
use Rattle.std.specs.Prelude.{Option, Some, None, Result, Ok, Err, ◌==◌, ◌↔◌, if◌then◌else◌}
use Rattle.std.specs.List.{list_all}
use Rattle.cnf.specs.Clause.{clause_value}
use Rattle.cnf.specs.Problem.{Problem, cost_under}
use Rattle.wcnf.specs.declared.faults.FaultKind.{FaultKind}
use Rattle.wcnf.specs.Reading.{reading_of}
use Rattle.cnf.specs.Bits.{assignment_of}
use Rattle.adder.specs.declared.profiles.Profile.{Profile}
use Rattle.adder.specs.declared.profiles.Profile.TheVariants.{One}
use Rattle.bound.specs.Bound.{hard_cnf, bound_as}
use Rattle.lrat_result.specs.Result.{Said, OptimumFound, Unsatisfiable, Satisfiable, Unknown}
use Rattle.lrat_result.specs.Result.{Report, report_of}
use Rattle.lrat_check.specs.Checks.{ChecksAs}
use Rattle.lrat_machine.specs.declared.verdicts.Cause.TheVariants.{Text, ResultForm, BitsLength}
use Rattle.lrat_machine.specs.declared.verdicts.Cause.TheVariants.{NotFeasible, CostWrong}
use Rattle.lrat_machine.specs.declared.verdicts.Cause.TheVariants.{StatusWithoutProof}
use Rattle.lrat_machine.specs.declared.verdicts.Verdict.{Verdict}
use Rattle.lrat_machine.specs.declared.verdicts.Verdict.TheVariants.{Yes, No}
pub use Rattle.lrat_machine.specs.Verdict.{verdict_on, proof_verdict}

-- the bits of a result: their number, whether they satisfy the hard clauses, and their cost
abbrev pub bits_fault : Problem → Report → ℕ → List Bool → Option Verdict
bits_fault p r cost bits =
    if not (length bits == p.variables) then Some (No BitsLength r.bits_line)
    else if not (list_all (clause_value (assignment_of bits)) p.hard) then Some
    (No NotFeasible r.bits_line)
    else if not (cost_under p (assignment_of bits) == cost) then Some (No CostWrong r.cost_line)
    else None

-- the verdict on what was said of an instance, from those on a certificate: that nothing costs less
-- than this, and that there is no solution
abbrev pub verdict_said : Problem → Report → (ℕ → Verdict) → Verdict → Verdict
verdict_said p r costs_least inconsistent = by r.said
  where
    first : Option Verdict → Verdict → Verdict
    first None next = next
    first (Some v) next = v

    by : Said → Verdict
    by (OptimumFound c bits) = first (bits_fault p r c bits) (costs_least c)
    by (Satisfiable c bits) = first (bits_fault p r c bits) (No StatusWithoutProof r.status_line)
    by Unsatisfiable = inconsistent
    by Unknown = No StatusWithoutProof r.status_line

-- the verdict on a text and a result, from that on what the result says of the instance
abbrev pub verdict_read : List ℕ → List ℕ → (Problem → Report → Verdict) → Verdict
verdict_read text result said = read (reading_of text)
  where
    reported : Problem → Result Report ℕ → Verdict
    reported p (Err n) = No ResultForm n
    reported p (Ok r) = said p r

    read : Result Problem (FaultKind × ℕ) → Verdict
    read (Err e) = No Text e.1
    read (Ok p) = reported p (report_of result)

abbrev pub said_verdict : Profile → Problem → Report → List ℕ → Verdict
said_verdict profile p r proof =
    verdict_said p r (λ cost. proof_verdict (bound_as profile p cost).clauses proof)
    (proof_verdict (hard_cnf p).clauses proof)

abbrev pub verdict_as : Profile → List ℕ → List ℕ → List ℕ → Verdict
verdict_as profile text result proof =
    verdict_read text result (λ p r. said_verdict profile p r proof)

abbrev pub check_verdict : List ℕ → List ℕ → List ℕ → Verdict
check_verdict text result proof = verdict_as One text result proof

-- the law that ties the verdict to what is checked
abbrev pub CheckVerdictIsRight : Type 0
CheckVerdictIsRight =
    (profile : Profile) (text result proof : List ℕ) → (verdict_as profile text result proof ≡ Yes)
    ↔ ChecksAs profile text result proof
