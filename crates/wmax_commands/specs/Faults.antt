-- Why a command has no answer, and its exit status.
use denote.Ref.{Bor}
use Rattle.std.specs.Prelude.{ℕ, Bool, true, false, List, Result, Ok, Err}
use Rattle.wcnf.specs.declared.faults.FaultKind.{FaultKind}
use Rattle.wcnf.specs.declared.faults.FaultKind.TheVariants.{Read as ReadKind}
use Rattle.report_text.specs.Codes.{code_of_fault}
use Rattle.report_text.specs.declared.fault.RunFault.{RunFault}
use Rattle.report_text.specs.declared.fault.RunFault.TheVariants.{Read, Memory, Output, ProofOutput}
use Rattle.wmax_commands.specs.declared.faults.Fault.{Fault}
use Rattle.wmax_commands.specs.declared.faults.Fault.TheVariants.{Run, Unreadable, Closed}

-- 3 for a file that cannot be read, and 141 where nobody reads the output
abbrev pub fault_status : Fault → ℕ
fault_status (Run fault) = code_of_fault fault
fault_status (Unreadable path) = 3
fault_status Closed = 141

-- a file that cannot be read is named
abbrev pub file_fault : RunFault → Bor (List ℕ) → Fault
file_fault (Read fault) path = Unreadable path
file_fault Memory path = Run Memory
file_fault Output path = Run Output
file_fault ProofOutput path = Run ProofOutput

-- and so is FILE, where it cannot be read; its other faults stay
abbrev pub by_kind : FaultKind → Fault → Bor (List ℕ) → Fault
by_kind ReadKind fault path = Unreadable path
by_kind _ fault path = fault

abbrev pub fault_of_text : Fault → Bor (List ℕ) → Fault
fault_of_text (Run (Read fault)) path = by_kind fault.kind (Run (Read fault)) path
fault_of_text (Run Memory) path = Run Memory
fault_of_text (Run Output) path = Run Output
fault_of_text (Run ProofOutput) path = Run ProofOutput
fault_of_text (Unreadable other) path = Unreadable other
fault_of_text Closed path = Closed

-- a writer that failed since nobody reads is no fault of its own
abbrev pub output_outcome : Result ℕ RunFault → Bool → Result ℕ Fault
output_outcome (Ok status) closed = Ok status
output_outcome (Err Output) true = Err Closed
output_outcome (Err Output) false = Err (Run Output)
output_outcome (Err Memory) closed = Err (Run Memory)
output_outcome (Err ProofOutput) closed = Err (Run ProofOutput)
output_outcome (Err (Read fault)) closed = Err (Run (Read fault))
