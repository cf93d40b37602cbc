-- What a run writes of what was found: the certificate, and the end of the result.
use Rattle.std.specs.Prelude.{ℕ, ◌+◌, ◌<◌, Bool, List, [], ◌∷◌, ◌++◌, length, Option, ⊤}
use Rattle.std.specs.List.{flat_map}
use Rattle.std.specs.Io.KnownBytes.{Appends}
use lib.Chars.{codes}
use Rattle.cnf.specs.declared.limits.TheConstants.{CLAUSE_LIMIT, NUMBER_LIMIT}
use Rattle.text.specs.Writing.{AppendsPart, spaced}
use Rattle.text.specs.LratText.{IsTextOf}
use Rattle.lrat_log.specs.Log.{LogLine, HasSmallIds, numbered_lines, text_of}
use Rattle.lrat_result.specs.Result.{Said, digit_of, result_tokens, OptimumFound as SaysOptimum}
use Rattle.lrat_result.specs.Result.{Unsatisfiable as SaysUnsatisfiable}
use Rattle.lrat_result.specs.Result.{Satisfiable as SaysSatisfiable, Unknown as SaysUnknown}
use Rattle.improve_found.specs.declared.found.Found.{Found}
use Rattle.improve_found.specs.declared.found.Found.TheVariants.{Optimum, Unsat, Best, Nothing}
use Rattle.report_text.specs.declared.status.CutsStatus.{CutsStatus}
use Rattle.report_text.specs.declared.status.CutsStatus.TheVariants.{OptimumFound as EndsOptimum}
use Rattle.report_text.specs.declared.status.CutsStatus.TheVariants.{Unsatisfiable as EndsUnsat}
use Rattle.report_text.specs.declared.status.CutsStatus.TheVariants.{Satisfiable as EndsSatisfiable}
use Rattle.report_text.specs.declared.status.CutsStatus.TheVariants.{Unknown as EndsUnknown}
use Rattle.report_text.specs.declared.status.Status.{Status}
use Rattle.report_text.specs.declared.status.Status.TheVariants.{OptimumFound, Unsatisfiable}
use Rattle.report_text.specs.declared.status.Status.TheVariants.{Satisfiable, Unknown}
use Rattle.report_text.specs.declared.fault.RunFault.{RunFault}
use Rattle.report_text.specs.declared.fault.RunFault.TheVariants.{Read, Memory, Output, ProofOutput}

abbrev pub status_of : Found → Status
status_of (Optimum c bits log clauses) = OptimumFound
status_of (Unsat log clauses) = Unsatisfiable
status_of (Best c bits work) = Satisfiable work
status_of (Nothing work) = Unknown work

abbrev pub digits_text : List Bool → List ℕ
digits_text bits = flat_map (λ b. digit_of b ∷ []) bits

-- how the line of the bits begins
abbrev pub bits_word : List Bool → List ℕ
bits_word [] = codes "v"
bits_word (b ∷ bits) = codes "v "

-- words, digits and a line feed
abbrev pub words_text : List ℕ → List Bool → List ℕ
words_text words bits = words ++ (digits_text bits ++ codes "\n")

-- the line of the status, and that of the bits
abbrev pub end_text : Found → List ℕ
end_text (Optimum c bits log clauses) =
    words_text (codes "s OPTIMUM FOUND\n" ++ bits_word bits.items) bits.items
end_text (Unsat log clauses) = words_text (codes "s UNSATISFIABLE") []
end_text (Best c bits work) =
    words_text (codes "s SATISFIABLE\n" ++ bits_word bits.items) bits.items
end_text (Nothing work) = words_text (codes "s UNKNOWN") []

-- what is written as certificate
abbrev pub proof_text : Found → List ℕ
proof_text (Optimum c bits log clauses) = text_of clauses log
proof_text (Unsat log clauses) = text_of clauses log
proof_text (Best c bits work) = []
proof_text (Nothing work) = []

-- with ids from this number on, the numbers of the log stay small where its lines are few
abbrev pub HasIdRoom : ℕ → List LogLine → Type 0
HasIdRoom n ls = (n < CLAUSE_LIMIT) × (n + length ls < NUMBER_LIMIT → HasSmallIds n ls)

abbrev pub HasProofRoom : Found → Type 0
HasProofRoom (Optimum c bits log clauses) = HasIdRoom clauses log
HasProofRoom (Unsat log clauses) = HasIdRoom clauses log
HasProofRoom (Best c bits work) = ⊤
HasProofRoom (Nothing work) = ⊤

-- the certificate's text has the lines of the log
abbrev pub IsSpelledProof : Found → Type 0
IsSpelledProof (Optimum c bits log clauses) =
    IsTextOf (text_of clauses log) (numbered_lines clauses log)
IsSpelledProof (Unsat log clauses) = IsTextOf (text_of clauses log) (numbered_lines clauses log)
IsSpelledProof (Best c bits work) = ⊤
IsSpelledProof (Nothing work) = ⊤

abbrev pub HasProof : Found → Type 0
HasProof (Optimum c bits log clauses) = ⊤
HasProof (Unsat log clauses) = ⊤
HasProof (Best c bits work) = ⊥
HasProof (Nothing work) = ⊥

-- a beginning of the end, after the whole certificate
pub record LeavesEnd (found : Found) (out out' proof proof' : Option (List ℕ)) : Type 0 where
  pub out_part : AppendsPart out out' (end_text found)
  pub proof_grows : Appends proof proof' (proof_text found)
  pub spelled : IsSpelledProof found

-- a beginning of the certificate, and nothing of the end
pub record LeavesCertificate (found : Found) (out out' proof proof' : Option (List ℕ))
    : Type 0 where
  pub out_kept : Appends out out' []
  pub proof_part : AppendsPart proof proof' (proof_text found)
  pub has_proof : HasProof found
  pub spelled : IsSpelledProof found

-- what stands after a fault: the certificate comes whole before the first byte of the end
abbrev pub LeavesAnswer : RunFault → Found
    → Option (List ℕ) → Option (List ℕ) → Option (List ℕ) → Option (List ℕ) → Type 0
LeavesAnswer Output found out out' proof proof' = LeavesEnd found out out' proof proof'
LeavesAnswer ProofOutput found out out' proof proof' = LeavesCertificate found out out' proof proof'
LeavesAnswer Memory found out out' proof proof' = ⊥
LeavesAnswer (Read fault) found out out' proof proof' = ⊥

-- and where there was none
pub record Answers (found : Found) (out out' proof proof' : Option (List ℕ)) : Type 0 where
  pub out_grows : Appends out out' (end_text found)
  pub proof_grows : Appends proof proof' (proof_text found)
  pub spelled : IsSpelledProof found

-- how a run ends whose result says this
abbrev pub status_by : Said → CutsStatus
status_by (SaysOptimum c bits) = EndsOptimum
status_by SaysUnsatisfiable = EndsUnsat
status_by (SaysSatisfiable c bits) = EndsSatisfiable
status_by SaysUnknown = EndsUnknown

-- the text of a result, where these costs were told before the last one
abbrev pub result_text : List ℕ → Said → List ℕ
result_text before said = flat_map spaced (result_tokens before said)
