-- What a run by forms and cuts writes and leaves. Its certificate is written while it searches.
use Rattle.std.specs.Prelude.{◌≡◌, ◌+◌, ◌<◌, ◌++◌, map, ℕ, Bool, true, List, [], ◌∷◌, length, All}
use Rattle.std.specs.Prelude.{Option, Some, None, IfSome, Result, Ok, Err, IfOk, IsOk, OnOk}
use Rattle.std.specs.Prelude.{if◌then◌else◌}
use Rattle.std.specs.Io.KnownBytes.{Keeps, Appends}
use lib.Chars.{codes}
use Rattle.cnf.specs.Problem.{Problem}
use Rattle.cnf.specs.declared.limits.TheConstants.{NUMBER_LIMIT}
use Rattle.text.specs.Writing.{Begins, AppendsPart}
use Rattle.wcnf.specs.Wcnf.{Reads}
use Rattle.cdcl_order.specs.Budgets.{BudgetState, left_of}
use Rattle.cdcl_order.specs.Watch.{Sight, with_seen}
use Rattle.lrat_machine.specs.declared.verdicts.Verdict.TheVariants.{Yes}
use Rattle.lrat_cuts.specs.Cuts.{CutsState}
use Rattle.lrat_cuts.specs.Verdict.{ended_part, judged_text}
use Rattle.lrat_result.specs.Result.{Said, FallsTo, Says, OptimumFound, Unsatisfiable, Satisfiable}
use Rattle.lrat_result.specs.Result.{Unknown}
use Rattle.lrat_check.specs.Cuts.{verdict_by_cuts}
use Rattle.improve_found.specs.Progress.{AreFalling, EndsWith}
use Rattle.improve_found.specs.Solutions.{IsCostOfSome, IsSolution}
use Rattle.improve_found.specs.Watch.{better_of, costs_shown}
use Rattle.improve_found.specs.declared.solutions.Solution.{Solution}
use Rattle.improve_found.specs.declared.found.ImproveFault.{ImproveFault}
use Rattle.improve_found.specs.declared.found.ImproveFault.TheVariants.{Memory as SearchMemory}
use Rattle.improve_found.specs.declared.found.ImproveFault.TheVariants.{Progress}
use Rattle.improve_cuts.specs.ByCuts.{IsCutsFound}
use Rattle.improve_found.specs.declared.found.CutsFound.{CutsFound}
use Rattle.report_text.specs.Told.{cost_lines}
use Rattle.report_text.specs.Best.{IsTrueOf, end_of}
use Rattle.report_text.specs.Answering.{bits_word, words_text, result_text, status_by}
use Rattle.report.specs.Running.{told_in, AreHonest, NeedsProof, IsTrueLimit, LeavesNothing}
use Rattle.report_text.specs.declared.status.CutsStatus.{CutsStatus}
use Rattle.report_text.specs.declared.fault.RunFault.{RunFault}
use Rattle.report_text.specs.declared.fault.RunFault.TheVariants.{Read, Memory, Output, ProofOutput}

-- the line of the status, and that of the bits
abbrev pub said_text : Said → List ℕ
said_text (OptimumFound c bits) = words_text (codes "s OPTIMUM FOUND\n" ++ bits_word bits) bits
said_text Unsatisfiable = words_text (codes "s UNSATISFIABLE") []
said_text (Satisfiable c bits) = words_text (codes "s SATISFIABLE\n" ++ bits_word bits) bits
said_text Unknown = words_text (codes "s UNKNOWN") []

-- the cost for which cuts have to hold, where the result says this, and where they have held for
-- the limit at the beginning
abbrev pub cost_held_by : (limit : ℕ) → Said → ℕ
cost_held_by limit (OptimumFound c bits) = c
cost_held_by limit Unsatisfiable = NUMBER_LIMIT
cost_held_by limit (Satisfiable c bits) = c
cost_held_by limit Unknown = limit

-- all lines of the certificate are right behind those in front of it, and where it is needed the
-- last one adds the empty clause
pub record IsRightBehind (front : List ℕ) (limit : ℕ) (p : Problem) (said : Said)
    (proved : List ℕ) : Type 0 where
  pub left : CutsState
  pub judged : judged_text (Some (cost_held_by limit said)) p (front ++ proved) ≡ Ok left
  pub ended : NeedsProof said → left.ended ≡ true

-- a checker says yes to text, result and certificate
abbrev pub ChecksByCuts : Option (List ℕ) → List ℕ → List ℕ → Type 0
ChecksByCuts text written proved =
    IfSome text (λ bytes. verdict_by_cuts bytes written proved ≡ Yes)

-- a run that ended with a status, and the bytes that it wrote: its certificate goes on behind these
-- lines, whose cuts hold for the limit
pub record IsRunBehind (front : List ℕ) (limit : ℕ) (text : Option (List ℕ)) (status : CutsStatus)
    (written proved : List ℕ) (old new : BudgetState) : Type 0 where
  -- the text reads as this instance
  pub problem : Problem
  pub reads : IfSome text (λ bytes. Reads bytes problem)
  -- what was written is this result, and says this
  pub before : List ℕ
  pub said : Said
  pub spelled : written ≡ result_text before said
  pub says : Says written said
  pub status_is : status ≡ status_by said
  -- it is so, of the costs told too
  pub honest : AreHonest text (told_in before said)
  pub true_answer : IsTrueOf problem said
  -- the certificate is right, and where the result needs it a checker finds it so
  pub right : IsRightBehind front limit problem said proved
  pub checked : NeedsProof said → ChecksByCuts text written (front ++ proved)
  -- the effort: where no certificate is needed, it is spent
  pub spent : (NeedsProof said → ⊥) → left_of new ≡ 0
  pub answers : new.answers ≡ old.answers + length (told_in before said)

-- what stands after a run that ended so
pub record EndsBehind (front : List ℕ) (limit : ℕ) (text out out' proof proof' : Option (List ℕ))
    (status : CutsStatus) (old new : BudgetState) : Type 0 where
  pub written : List ℕ
  pub proved : List ℕ
  pub out_grows : Appends out out' written
  pub proof_grows : Appends proof proof' proved
  pub run : IsRunBehind front limit text status written proved old new

abbrev pub EndsByCuts : Option (List ℕ) → Option (List ℕ) → Option (List ℕ) → Option (List ℕ)
    → Option (List ℕ) → CutsStatus → BudgetState → BudgetState → Type 0
EndsByCuts text out out' proof proof' status old new =
    EndsBehind [] NUMBER_LIMIT text out out' proof proof' status old new

-- the certificate has grown; of its new lines those that a line feed ends are right behind these
-- lines, whatever their cuts hold for, if these are
pub record GrowsRightly (front : List ℕ) (text proof proof' : Option (List ℕ)) : Type 0 where
  pub proved : List ℕ
  pub proof_grows : Appends proof proof' proved
  pub right : IfSome text (λ bytes. (p : Problem) → Reads bytes p
      → IsOk (judged_text None p front) → IsOk (judged_text None p (front ++ ended_part proved)))

-- whole o lines
pub record LeavesCosts (text out out' : Option (List ℕ)) : Type 0 where
  pub costs : List ℕ
  pub out_grows : Appends out out' (cost_lines costs)
  pub honest : AreHonest text costs

-- the certificate is right for the result behind these lines, and a checker says yes where that
-- needs it
pub record IsWholeBehind (front : List ℕ) (text : Option (List ℕ)) (said : Said)
    (written : List ℕ) (proof proof' : Option (List ℕ)) : Type 0 where
  pub proved : List ℕ
  pub proof_grows : Appends proof proof' proved
  pub checked : NeedsProof said → ChecksByCuts text written (front ++ proved)

-- A beginning of a result; past the o lines, the certificate that it needs is whole, or it is true
-- without one. Its last cost may be one whose line was begun.
pub record LeavesResultBehind (front : List ℕ) (text out out' proof proof' : Option (List ℕ))
    (budget : BudgetState) : Type 0 where
  pub written : List ℕ
  pub out_grows : Appends out out' written
  pub proof_part : GrowsRightly front text proof proof'
  pub before : List ℕ
  pub said : Said
  pub falls : FallsTo before said
  pub honest : AreHonest text (told_in before said)
  pub begins : Begins written (result_text before said)
  pub proof_is_whole : length (cost_lines (told_in before said)) < length written
      → IsWholeBehind front text said (result_text before said) proof proof'
  pub limit : length (cost_lines (told_in before said)) < length written
      → IsTrueLimit text said budget

-- what stands after a fault, where the certificate's writer is still at hand: what it has stands
-- behind these lines
abbrev pub LeavesBehind : List ℕ → RunFault → Option (List ℕ) → Option (List ℕ)
    → Option (List ℕ) → Option (List ℕ) → Option (List ℕ) → BudgetState → Type 0
LeavesBehind front (Read fault) text out out' proof proof' budget =
    LeavesNothing text out out' proof proof' fault
LeavesBehind front Memory text out out' proof proof' budget =
    LeavesCosts text out out' × GrowsRightly front text proof proof'
LeavesBehind front Output text out out' proof proof' budget =
    LeavesResultBehind front text out out' proof proof' budget
LeavesBehind front ProofOutput text out out' proof proof' budget =
    LeavesCosts text out out' × GrowsRightly front text proof proof'

abbrev pub LeavesByCuts : RunFault → Option (List ℕ) → Option (List ℕ) → Option (List ℕ)
    → Option (List ℕ) → Option (List ℕ) → BudgetState → Type 0
LeavesByCuts fault text out out' proof proof' budget =
    LeavesBehind [] fault text out out' proof proof' budget

-- just the solutions were shown whose costs the result tells, each once, in their order, and then
-- the end once, as the result says it
pub record IsSeenByCuts (text out out' : Option (List ℕ)) (status : CutsStatus)
    (before after : Option (List Sight)) : Type 0 where
  -- the text reads as this instance
  pub problem : Problem
  pub reads : IfSome text (λ bytes. Reads bytes problem)
  pub solutions : List (ℕ × List Bool)
  pub each : All (λ s. IsSolution problem s.1 s.0) solutions
  pub said : Said
  pub status_is : status ≡ status_by said
  pub true_answer : IsTrueOf problem said
  pub seen : after ≡ with_seen
      (map (better_of problem) solutions ++ end_of problem said ∷ []) before
  -- what was written is this result
  pub earlier : List ℕ
  pub told : told_in earlier said ≡ costs_shown solutions
  pub out_grows : Appends out out' (result_text earlier said)

-- a search that could not tell a cost met this fault; it wants memory, or a write of its
-- certificate has failed
abbrev pub memory_fault : Bool → RunFault
memory_fault has_write_failed = if has_write_failed then ProofOutput else Memory

abbrev pub cuts_outcome : Result CutsFound ImproveFault → RunFault → Bool
    → Result CutsFound RunFault
cuts_outcome (Ok found) fault has_write_failed = Ok found
cuts_outcome (Err SearchMemory) fault has_write_failed = Err (memory_fault has_write_failed)
cuts_outcome (Err Progress) fault has_write_failed = Err fault

-- what the writer has of a search that ended so, where these costs were tried
abbrev pub HasTriedLines : Result CutsFound RunFault → List ℕ → Option (List ℕ) → Option (List ℕ)
    → Type 0
HasTriedLines (Ok found) tried out out' = Appends out out' (cost_lines tried)
HasTriedLines (Err Memory) tried out out' = Appends out out' (cost_lines tried)
HasTriedLines (Err ProofOutput) tried out out' = Appends out out' (cost_lines tried)
HasTriedLines (Err Output) tried out out' =
    AppendsPart out out' (cost_lines tried) × ((c : ℕ) × EndsWith tried c)
HasTriedLines (Err (Read fault)) tried out out' = ⊥

-- What a search found, wrote and spent. Cuts hold for a cost, and held for the limit at the
-- beginning; the empty clause was added, or not.
pub record SearchesByCuts (p : Problem) (limit : ℕ) (result : Result CutsFound RunFault)
    (refuted : Bool) (held : ℕ) (out out' : Option (List ℕ)) (old new : BudgetState)
    : Type 0 where
  pub tried : List ℕ
  pub falling : AreFalling tried
  pub honest : All (IsCostOfSome p) tried
  pub small : All (λ c. c < NUMBER_LIMIT) tried
  pub lines : HasTriedLines result tried out out'
  pub found : IfOk result (λ found. IsCutsFound p limit tried found refuted held new)
  -- the effort
  pub same_limit : new.limit ≡ old.limit
  pub answers : OnOk result (new.answers ≡ old.answers + length tried)

-- Before this was found just these solutions were shown, each once, in their order. The writer has
-- their costs.
pub record IsShownByCuts (p : Problem) (limit : ℕ) (found : CutsFound) (refuted : Bool)
    (held : ℕ) (out out' : Option (List ℕ)) (budget : BudgetState)
    (before after : Option (List Sight)) : Type 0 where
  pub solutions : List (ℕ × List Bool)
  pub each : All (λ s. IsSolution p s.1 s.0) solutions
  pub seen : after ≡ with_seen (map (better_of p) solutions) before
  pub falling : AreFalling (costs_shown solutions)
  pub small : All (λ c. c < NUMBER_LIMIT) (costs_shown solutions)
  pub lines : Appends out out' (cost_lines (costs_shown solutions))
  pub right : IsCutsFound p limit (costs_shown solutions) found refuted held budget

-- what stands after the end, where the certificate has all its lines or not: it is flushed whole
-- before the first byte of the end
abbrev pub LeavesAnswerByCuts : RunFault → Bool → Said → Option (List ℕ) → Option (List ℕ)
    → Option (List ℕ) → Option (List ℕ) → Type 0
LeavesAnswerByCuts Output whole said out out' proof proof' =
    (whole ≡ true) × AppendsPart out out' (said_text said) × Keeps proof proof'
LeavesAnswerByCuts ProofOutput whole said out out' proof proof' =
    Keeps out out' × Keeps proof proof'
LeavesAnswerByCuts Memory whole said out out' proof proof' = ⊥
LeavesAnswerByCuts (Read fault) whole said out out' proof proof' = ⊥

pub record AnswersByCuts (whole : Bool) (said : Said) (out out' proof proof' : Option (List ℕ))
    : Type 0 where
  pub is_whole : whole ≡ true
  pub out_grows : Appends out out' (said_text said)
  pub proof_kept : Keeps proof proof'

-- cuts hold for this when it was found: for what the best solution costs, or as at the beginning
abbrev pub held_by : (limit : ℕ) → Option Solution → ℕ
held_by limit (Some b) = b.cost
held_by limit None = limit

abbrev pub held_for : (limit : ℕ) → Result CutsFound RunFault → ℕ
held_for limit (Ok found) = held_by limit found.best
held_for limit (Err fault) = limit
