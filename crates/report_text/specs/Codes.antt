-- Exit statuses.
use Rattle.std.specs.Prelude.{ℕ}
use Rattle.wcnf.specs.declared.faults.FaultKind.{FaultKind}
use Rattle.wcnf.specs.declared.faults.FaultKind.TheVariants.{Memory as MemoryKind, Read as ReadKind}
use Rattle.lrat_check.specs.declared.lower.LowerVerdict.{LowerVerdict}
use Rattle.lrat_check.specs.declared.lower.LowerVerdict.TheVariants.{AtLeast, NoSolution}
use Rattle.lrat_check.specs.declared.lower.LowerVerdict.TheVariants.{No as NotShown}
use Rattle.lrat_check.specs.declared.verdicts.Verdict.{Verdict}
use Rattle.lrat_check.specs.declared.verdicts.Verdict.TheVariants.{Yes, No}
use Rattle.report_text.specs.declared.fault.RunFault.{RunFault}
use Rattle.report_text.specs.declared.fault.RunFault.TheVariants.{Read, Memory, Output, ProofOutput}
use Rattle.report_text.specs.declared.status.CutsStatus.{CutsStatus}
use Rattle.report_text.specs.declared.status.CutsStatus.TheVariants.{OptimumFound as EndsOptimum}
use Rattle.report_text.specs.declared.status.CutsStatus.TheVariants.{Unsatisfiable as EndsUnsat}
use Rattle.report_text.specs.declared.status.CutsStatus.TheVariants.{Satisfiable as EndsSatisfiable}
use Rattle.report_text.specs.declared.status.CutsStatus.TheVariants.{Unknown as EndsUnknown}
use Rattle.report_text.specs.declared.status.Status.{Status}
use Rattle.report_text.specs.declared.status.Status.TheVariants.{OptimumFound, Unsatisfiable}
use Rattle.report_text.specs.declared.status.Status.TheVariants.{Satisfiable, Unknown}

abbrev pub code_of_status : Status → ℕ
code_of_status OptimumFound = 30
code_of_status Unsatisfiable = 20
code_of_status (Satisfiable work) = 10
code_of_status (Unknown work) = 0

abbrev pub code_of_cuts : CutsStatus → ℕ
code_of_cuts EndsOptimum = 30
code_of_cuts EndsUnsat = 20
code_of_cuts EndsSatisfiable = 10
code_of_cuts EndsUnknown = 0

abbrev pub code_of_verdict : Verdict → ℕ
code_of_verdict Yes = 0
code_of_verdict (No cause line) = 1

-- 1 where nothing is shown
abbrev pub code_of_lower : LowerVerdict → ℕ
code_of_lower (AtLeast lower) = 0
code_of_lower NoSolution = 0
code_of_lower (NotShown cause line) = 1

-- 2 for a faulty text, and 3 for all else
abbrev pub code_of_kind : FaultKind → ℕ
code_of_kind ReadKind = 3
code_of_kind MemoryKind = 3
code_of_kind other = 2

abbrev pub code_of_fault : RunFault → ℕ
code_of_fault (Read fault) = code_of_kind fault.kind
code_of_fault Memory = 3
code_of_fault Output = 3
code_of_fault ProofOutput = 3
