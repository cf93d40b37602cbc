-- What is left to check of a text and a result, before the certificate is read.
use Rattle.std.specs.Prelude.{◌≡◌, ℕ, List, Ok}
use Rattle.cnf.specs.Formula.{IsUnsatisfiable}
use Rattle.cnf.specs.Problem.{Problem}
use Rattle.wcnf.specs.Wcnf.{Reads}
use Rattle.lrat_result.specs.Result.{Report, report_of}
use Rattle.lrat_result.specs.Report.{reported}
use Rattle.lrat_check.specs.declared.checking.Texts.{Texts}
use Rattle.lrat_check.specs.declared.checking.Texts.TheVariants.{Refused, Read}
use Rattle.lrat_check.specs.declared.checking.Left.{Left}
use Rattle.lrat_check.specs.declared.checking.Left.TheVariants.{Nothing, Proof}
use Rattle.lrat_machine.specs.declared.verdicts.Verdict.{Verdict}
use Rattle.lrat_machine.specs.declared.verdicts.Verdict.TheVariants.{Yes}
use Rattle.lrat_check.specs.Verdict.{proof_verdict, verdict_read}

-- the texts read as this instance and this report; or this is the verdict, whatever is said of them
abbrev pub AreRead : List ℕ → List ℕ → Texts → Type 0
AreRead text answer (Refused v) =
    (v ≡ Yes → ⊥) × ((said : Problem → Report → Verdict) → v ≡ verdict_read text answer said)
AreRead text answer (Read p r) = Reads text p × (report_of answer ≡ Ok (reported r))

-- the verdict with this certificate
abbrev pub verdict_left : Left → List ℕ → Verdict
verdict_left (Nothing v) proof = v
verdict_left (Proof f) proof = proof_verdict f.clauses proof

-- a yes, or a refutation, shows it
abbrev pub Shows : Left → Type 0 → Type 0
Shows (Nothing v) P = v ≡ Yes → P
Shows (Proof f) P = IsUnsatisfiable f.clauses → P
