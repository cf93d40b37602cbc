-- What a result comes to on an instance.
use Rattle.std.specs.Prelude.{◌≡◌, ℕ, Bool, List, Option, Some, None, Ok, Err, ⊤}
use Rattle.cnf.specs.Problem.{Problem}
use Rattle.wcnf.specs.Reading.{IsFirstFault}
use Rattle.lrat_result.specs.Result.{Said, OptimumFound, Satisfiable, Report, report_of}
use Rattle.lrat_result.specs.Result.{Unsatisfiable as SaysUnsatisfiable, Unknown as SaysUnknown}
use Rattle.explain.specs.declared.explaining.ExplainFault.{ExplainFault}
use Rattle.explain.specs.declared.explaining.ExplainFault.TheVariants.{Text, Result, Memory}
use Rattle.explain.specs.declared.explaining.ExplainFault.TheVariants.{Output}
use Rattle.explain.specs.declared.judging.Judgement.{Judgement}
use Rattle.explain.specs.declared.judging.Judgement.TheVariants.{Right, Wrong, Unsatisfiable}
use Rattle.explain.specs.declared.judging.Judgement.TheVariants.{Unknown}
use Rattle.explain.specs.Explained.{AreRead, IsSolutionOf}

abbrev pub IsJudgedSolution : Problem → List Bool → ℕ → Judgement → Type 0
IsJudgedSolution p bits c (Right d) = (d ≡ c) × IsSolutionOf p bits c
IsJudgedSolution p bits c Wrong = IsSolutionOf p bits c → ⊥
IsJudgedSolution p bits c Unsatisfiable = ⊥
IsJudgedSolution p bits c Unknown = ⊥

abbrev pub IsJudged : Problem → Said → Judgement → Type 0
IsJudged p (OptimumFound c bits) j = IsJudgedSolution p bits c j
IsJudged p (Satisfiable c bits) j = IsJudgedSolution p bits c j
IsJudged p SaysUnsatisfiable j = j ≡ Unsatisfiable
IsJudged p SaysUnknown j = j ≡ Unknown

pub record JudgesTexts (text answer : List ℕ) (judgement : Judgement) : Type 0 where
  pub problem : Problem
  pub report : Report
  pub read : AreRead text answer problem report
  pub judged : IsJudged problem report.said judgement

-- what a text says as a result, on this instance
pub record JudgesAnswer (p : Problem) (answer : List ℕ) (judgement : Judgement) : Type 0 where
  pub report : Report
  pub read : report_of answer ≡ Ok report
  pub judged : IsJudged p report.said judgement

-- the bits of what is said
abbrev pub bits_said : Said → Option (List Bool)
bits_said (OptimumFound c bits) = Some bits
bits_said (Satisfiable c bits) = Some bits
bits_said SaysUnsatisfiable = None
bits_said SaysUnknown = None

-- the text tells these bits as a result does, or none
abbrev pub TellsBits : List ℕ → Option (List Bool) → Type 0
TellsBits answer bits =
    (report : Report) × (report_of answer ≡ Ok report) × (bits ≡ bits_said report.said)

-- what each fault says
abbrev pub IsReadFault : List ℕ → List ℕ → ExplainFault → Type 0
IsReadFault text answer (Text fault) = IsFirstFault text fault.kind fault.line
IsReadFault text answer (Result n) = report_of answer ≡ Err n
IsReadFault text answer Memory = ⊤
IsReadFault text answer Output = ⊥
