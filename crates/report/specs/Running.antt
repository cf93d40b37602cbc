-- What a run reads, writes and leaves. Bytes are known where a reader or a writer tells them, as
-- those over memory do.
use Rattle.std.specs.Prelude.{◌≡◌, ◌+◌, ◌<◌, [], ◌∷◌, ◌++◌, ⊤, ◌⊎◌, ℕ, Bool, List, length, All}
use Rattle.std.specs.Prelude.{Option, IfSome, Result, Ok, Err, IfOk, OnOk}
use Rattle.std.specs.Io.KnownBytes.{Keeps, Appends}
use Rattle.cnf.specs.Literal.{Assignment}
use Rattle.cnf.specs.Bits.{Extends}
use Rattle.cnf.specs.Problem.{Problem, IsOptimal, IsInconsistent}
use Rattle.cnf.specs.Refute.{IsRefutedByHints}
use Rattle.cnf.specs.declared.limits.TheConstants.{NUMBER_LIMIT}
use Rattle.text.specs.Writing.{Begins, AppendsPart}
use Rattle.wcnf.specs.Wcnf.{Reads}
use Rattle.wcnf.specs.Reading.{IsFirstFault}
use Rattle.wcnf.specs.declared.faults.ReadFault.{ReadFault}
use Rattle.wcnf.specs.declared.faults.FaultKind.TheVariants.{Memory as MemoryKind, Read as ReadKind}
use Rattle.adder.specs.declared.profiles.Profile.{Profile}
use Rattle.bound.specs.Bound.{hard_cnf}
use Rattle.cdcl_order.specs.Budgets.{BudgetState, left_of}
use Rattle.lrat_result.specs.Result.{Said, FallsTo, Says, OptimumFound as SaysOptimum}
use Rattle.lrat_result.specs.Result.{Unsatisfiable as SaysUnsatisfiable}
use Rattle.lrat_result.specs.Result.{Satisfiable as SaysSatisfiable, Unknown as SaysUnknown}
use Rattle.lrat_check.specs.Checks.{ChecksAs}
use Rattle.improve_found.specs.declared.found.Found.{Found}
use Rattle.improve_found.specs.declared.found.Work.{Work}
use Rattle.improve_found.specs.declared.found.ImproveFault.{ImproveFault}
use Rattle.improve_found.specs.declared.found.ImproveFault.TheVariants.{Memory as SearchMemory}
use Rattle.improve_found.specs.declared.found.ImproveFault.TheVariants.{Progress}
use Rattle.improve_found.specs.Progress.{AreFalling, EndsWith}
use Rattle.improve_found.specs.Solutions.{IsCostOfSome, IsSolution}
use Rattle.improve.specs.Improving.{IsHardWork, IsBoundWork, IsRightFound, OnWork, work_count}
use Rattle.report_text.specs.Answering.{result_text}
use Rattle.report_text.specs.Told.{cost_lines}
use Rattle.report_text.specs.declared.status.Status.{Status}
use Rattle.report_text.specs.declared.status.Status.TheVariants.{OptimumFound, Unsatisfiable}
use Rattle.report_text.specs.declared.status.Status.TheVariants.{Satisfiable, Unknown}
use Rattle.report_text.specs.declared.fault.RunFault.{RunFault}
use Rattle.report_text.specs.declared.fault.RunFault.TheVariants.{Read, Memory, Output, ProofOutput}

-- all costs that the result tells
abbrev pub told_in : List ℕ → Said → List ℕ
told_in before (SaysOptimum c bits) = before ++ c ∷ []
told_in before (SaysSatisfiable c bits) = before ++ c ∷ []
told_in before SaysUnsatisfiable = []
told_in before SaysUnknown = []

-- the costs fall, and each is that of some solution of what the text reads as
abbrev pub AreHonest : Option (List ℕ) → List ℕ → Type 0
AreHonest text costs =
    AreFalling costs
    × IfSome text (λ bytes. (p : Problem) → Reads bytes p → All (IsCostOfSome p) costs)

-- text, result and certificate check
abbrev pub AreChecked : Profile → Option (List ℕ) → List ℕ → List ℕ → Type 0
AreChecked profile text written proved =
    IfSome text (λ bytes. ChecksAs profile bytes written proved)

-- The budget is spent, and the work is what it was spent on; no certificate is written.
pub record IsSpentOn (p : Problem) (proved : List ℕ) (work : Work) (old new : BudgetState)
    : Type 0 where
  pub no_proof : proved ≡ []
  pub none_left : left_of new ≡ 0
  pub hard : IsHardWork p work
  pub learned : new.learned ≡ old.learned + work_count work

-- the bits are a solution, the cheapest that was met, and nothing is known of cheaper ones
pub record IsTrueSatisfiable (profile : Profile) (p : Problem) (costs : List ℕ) (c : ℕ)
    (bits : List Bool) (proved : List ℕ) (work : Work) (old new : BudgetState) : Type 0 where
  pub solution : IsSolution p bits c
  pub above_zero : 0 < c
  pub spent : IsSpentOn p proved work old new
  pub bound : IsBoundWork profile p costs c work

-- no solution was met
pub record IsTrueUnknown (p : Problem) (proved : List ℕ) (work : Work) (old new : BudgetState)
    : Type 0 where
  -- propagation alone does not refute the hard clauses
  pub not_refuted : IsRefutedByHints (hard_cnf p).clauses → ⊥
  pub spent : IsSpentOn p proved work old new
  pub no_bound : work.bound ≡ []

-- what the status and the result say is so
abbrev pub IsTrueAnswer : Profile → Problem → List ℕ → Status → Said → List ℕ
    → BudgetState → BudgetState → Type 0
IsTrueAnswer profile p costs OptimumFound (SaysOptimum c bits) proved old new =
    (t : Assignment) → Extends bits t → IsOptimal p t c
IsTrueAnswer profile p costs Unsatisfiable SaysUnsatisfiable proved old new = IsInconsistent p
IsTrueAnswer profile p costs (Satisfiable work) (SaysSatisfiable c bits) proved old new =
    IsTrueSatisfiable profile p costs c bits proved work old new
IsTrueAnswer profile p costs (Unknown work) SaysUnknown proved old new =
    IsTrueUnknown p proved work old new
IsTrueAnswer profile p costs status said proved old new = ⊥

-- the statuses with a certificate
abbrev pub NeedsProof : Said → Type 0
NeedsProof (SaysOptimum c bits) = ⊤
NeedsProof SaysUnsatisfiable = ⊤
NeedsProof (SaysSatisfiable c bits) = ⊥
NeedsProof SaysUnknown = ⊥

-- a run that ended with a status, and the bytes that it wrote
pub record IsRun (profile : Profile) (text : Option (List ℕ)) (status : Status)
    (written proved : List ℕ) (old new : BudgetState) : Type 0 where
  -- the text reads as this instance
  pub problem : Problem
  pub reads : IfSome text (λ bytes. Reads bytes problem)
  -- what was written is this result, and says this
  pub before : List ℕ
  pub said : Said
  pub spelled : written ≡ result_text before said
  pub says : Says written said
  -- it is so, of the costs told too
  pub honest : AreHonest text (told_in before said)
  pub true_answer : IsTrueAnswer profile problem (told_in before said) status said proved old new
  -- a checker finds it so
  pub checked : NeedsProof said → AreChecked profile text written proved
  pub answers : new.answers ≡ old.answers + length (told_in before said)

-- what stands after a run that ended so
pub record EndsAs (profile : Profile) (text out out' proof proof' : Option (List ℕ))
    (status : Status) (old new : BudgetState) : Type 0 where
  pub written : List ℕ
  pub proved : List ℕ
  pub out_grows : Appends out out' written
  pub proof_grows : Appends proof proof' proved
  pub run : IsRun profile text status written proved old new

-- the text reads as this instance, and as no other
abbrev pub ReadsOnlyAs : Option (List ℕ) → Problem → Type 0
ReadsOnlyAs text p =
    IfSome text (λ bytes. Reads bytes p)
    × IfSome text (λ bytes. (q : Problem) → Reads bytes q → q ≡ p)

-- a fault of the reader, or the first one of the text
abbrev pub IsReadFault : Option (List ℕ) → ReadFault → Type 0
IsReadFault text f =
    (f ≡ record { kind = ReadKind; line = 0 })
    ⊎ ((f.kind ≡ MemoryKind → ⊥) × IfSome text (λ bytes. IsFirstFault bytes f.kind f.line))

-- nothing
pub record LeavesNothing (text out out' proof proof' : Option (List ℕ)) (fault : ReadFault)
    : Type 0 where
  pub out_kept : Keeps out out'
  pub proof_kept : Keeps proof proof'
  pub is_fault : IsReadFault text fault

-- whole o lines
pub record LeavesLines (text out out' proof proof' : Option (List ℕ)) : Type 0 where
  pub costs : List ℕ
  pub out_grows : Appends out out' (cost_lines costs)
  pub honest : AreHonest text costs
  pub proof_kept : Keeps proof proof'

-- Where a result needs no certificate, its bits are a solution of the last cost, and the budget is
-- spent.
abbrev pub IsTrueLimit : Option (List ℕ) → Said → BudgetState → Type 0
IsTrueLimit text (SaysOptimum c bits) budget = ⊤
IsTrueLimit text SaysUnsatisfiable budget = ⊤
IsTrueLimit text (SaysSatisfiable c bits) budget =
    IfSome text (λ bytes. (p : Problem) → Reads bytes p → IsSolution p bits c)
    × (left_of budget ≡ 0)
IsTrueLimit text SaysUnknown budget = left_of budget ≡ 0

-- A beginning of a result; past the o lines, the certificate that it needs is whole, or it is true
-- without one. Its last cost may be one whose line was begun.
pub record LeavesResult (profile : Profile) (text out out' proof proof' : Option (List ℕ))
    (budget : BudgetState) : Type 0 where
  pub written : List ℕ
  pub proved : List ℕ
  pub out_grows : Appends out out' written
  pub proof_grows : Appends proof proof' proved
  pub before : List ℕ
  pub said : Said
  pub falls : FallsTo before said
  pub honest : AreHonest text (told_in before said)
  pub begins : Begins written (result_text before said)
  pub no_proof : (NeedsProof said → ⊥) → proved ≡ []
  pub proof_is_whole : NeedsProof said
      → length (cost_lines (told_in before said)) < length written
      → AreChecked profile text (result_text before said) proved
  pub limit : length (cost_lines (told_in before said)) < length written
      → IsTrueLimit text said budget

-- whole o lines, and a beginning of a certificate of some result that begins with them
pub record LeavesProof (profile : Profile) (text out out' proof proof' : Option (List ℕ))
    : Type 0 where
  pub proved : List ℕ
  pub whole : List ℕ
  pub before : List ℕ
  pub said : Said
  pub out_grows : Appends out out' (cost_lines (told_in before said))
  pub proof_grows : Appends proof proof' proved
  pub begins : Begins proved whole
  pub honest : AreHonest text (told_in before said)
  pub needed : NeedsProof said
  pub checked : AreChecked profile text (result_text before said) whole

-- what stands after a fault
abbrev pub Leaves : Profile → RunFault → Option (List ℕ) → Option (List ℕ) → Option (List ℕ)
    → Option (List ℕ) → Option (List ℕ) → BudgetState → Type 0
Leaves profile (Read fault) text out out' proof proof' budget =
    LeavesNothing text out out' proof proof' fault
Leaves profile Memory text out out' proof proof' budget = LeavesLines text out out' proof proof'
Leaves profile Output text out out' proof proof' budget =
    LeavesResult profile text out out' proof proof' budget
Leaves profile ProofOutput text out out' proof proof' budget =
    LeavesProof profile text out out' proof proof'

-- what the writer has of a search that ended so, where these costs were tried
abbrev pub HasLines : Result Found RunFault → List ℕ → Option (List ℕ) → Option (List ℕ) → Type 0
HasLines (Ok found) tried out out' = Appends out out' (cost_lines tried)
HasLines (Err Memory) tried out out' = Appends out out' (cost_lines tried)
HasLines (Err Output) tried out out' =
    AppendsPart out out' (cost_lines tried) × ((c : ℕ) × EndsWith tried c)
HasLines (Err ProofOutput) tried out out' = ⊥
HasLines (Err (Read fault)) tried out out' = ⊥

-- a search that could not tell a cost met this fault
abbrev pub outcome_of : Result Found ImproveFault → RunFault → Result Found RunFault
outcome_of (Ok found) fault = Ok found
outcome_of (Err SearchMemory) fault = Err Memory
outcome_of (Err Progress) fault = Err fault

-- what a search found, wrote and spent
pub record Searches (profile : Profile) (p : Problem) (result : Result Found RunFault)
    (out out' : Option (List ℕ)) (old new : BudgetState) : Type 0 where
  pub tried : List ℕ
  pub falling : AreFalling tried
  pub honest : All (IsCostOfSome p) tried
  pub small : All (λ c. c < NUMBER_LIMIT) tried
  pub lines : HasLines result tried out out'
  pub found : IfOk result (IsRightFound profile p tried)
  -- the effort
  pub same_limit : new.limit ≡ old.limit
  pub answers : OnOk result (new.answers ≡ old.answers + length tried)
  pub learned : IfOk result
      (λ found. OnWork (Ok found) (λ work. new.learned ≡ old.learned + work_count work))
  pub spent : IfOk result (λ found. OnWork (Ok found) (λ work. left_of new ≡ 0))
