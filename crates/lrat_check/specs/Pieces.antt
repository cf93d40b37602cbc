-- A checker that is handed the certificate in pieces.
use Rattle.std.specs.Prelude.{◌≡◌, ℕ, Bool, List, [], ◌∷◌, ◌++◌, length, Option, Some, None}
use Rattle.std.specs.Prelude.{IfSome, ◌⊎◌}
use Rattle.std.specs.Io.KnownBytes.{Consumes}
use Rattle.cnf.specs.Literal.{Literal}
use Rattle.text.specs.Text.{token_lines, tokens_of}
use Rattle.text.specs.Pieces.{IsCut, IsEnded}
use Rattle.lrat_read.specs.declared.line.ReadLine.{ReadLine}
use Rattle.lrat_read.specs.Batch.{AreRead}
use Rattle.lrat_machine.specs.declared.verdicts.Cause.{Cause}
use Rattle.lrat_machine.specs.declared.verdicts.Verdict.{Verdict}
use Rattle.lrat_machine.specs.declared.verdicts.Verdict.TheVariants.{No}
use Rattle.lrat_machine.specs.Machine.{MachineState, verdict_after}
use Rattle.lrat_check.specs.Stopping.{ReadsOn}
use Rattle.lrat_check.specs.Verdict.{proof_verdict}

-- what the pieces so far leave
pub record ReadingState : Type 0 where
  -- after the lines that a line feed has ended, up to the first fault
  pub machine : MachineState
  -- what follows the last line feed
  pub rest : List ℕ
  -- the first fault
  pub refused : Option Verdict

-- no ended line of the bytes is faulty: the rest is what follows the last of them, and from the
-- machine the verdict follows, whatever comes
pub record IsOpen (r : ReadingState) (formula : List (List Literal)) (bytes : List ℕ) : Type 0 where
  pub done : List ℕ
  pub cut : IsCut bytes done r.rest
  pub resumes : (more : List ℕ)
      → verdict_after r.machine (token_lines more) ≡ proof_verdict formula (done ++ more)

-- this is the verdict from one of the ended lines of the bytes on, whatever comes
pub record IsRefused (v : Verdict) (formula : List (List Literal)) (bytes : List ℕ) : Type 0 where
  pub done : List ℕ
  pub after : List ℕ
  pub split : bytes ≡ done ++ after
  pub ended : IsEnded done
  pub cause : Cause
  pub line : ℕ
  pub fault : v ≡ No cause line
  pub stays : (more : List ℕ) → proof_verdict formula (done ++ more) ≡ v

-- this is what these bytes leave, over the clauses
pub record Holds (r : ReadingState) (formula : List (List Literal)) (bytes : List ℕ) : Type 0 where
  pub open_end : r.refused ≡ None → IsOpen r formula bytes
  pub refused : (v : Verdict) → r.refused ≡ Some v → IsRefused v formula bytes

-- the line leads on to a state, or it is the first fault
abbrev pub Judges : MachineState → List ℕ → MachineState → Option Verdict → Type 0
Judges old line new None =
    (more : List (List (List ℕ)))
    → verdict_after old (tokens_of line ∷ more) ≡ verdict_after new more
Judges old line new (Some v) =
    ((cause : Cause) × (n : ℕ) × (v ≡ No cause n))
    × ((more : List (List (List ℕ))) → verdict_after old (tokens_of line ∷ more) ≡ v)

-- the lines of the bytes, each of which is ended, lead on to a state, or one is the first fault
abbrev pub JudgesLines : MachineState → List ℕ → MachineState → Option Verdict → Type 0
JudgesLines old bytes new None =
    (more : List ℕ)
    → verdict_after old (token_lines (bytes ++ more)) ≡ verdict_after new (token_lines more)
JudgesLines old bytes new (Some v) =
    ((cause : Cause) × (n : ℕ) × (v ≡ No cause n))
    × ((more : List ℕ) → verdict_after old (token_lines (bytes ++ more)) ≡ v)

-- all but the left ones of the lines of the bytes lead on to a state
pub record JudgesUpTo (old : MachineState) (bytes : List ℕ) (new : MachineState)
    (left : List ReadLine) : Type 0 where
  pub left_bytes : List ℕ
  pub read : AreRead left_bytes left
  pub leads : (more : List ℕ) → verdict_after old (token_lines (bytes ++ more))
      ≡ verdict_after new (token_lines (left_bytes ++ more))

pub record CheckerState : Type 0 where
  pub reading : ReadingState
  -- how many bytes came in
  pub fed : ℕ
  -- memory was refused
  pub failed : Bool

-- the checker has judged these bytes over the clauses
pub record HasJudged (c : CheckerState) (formula : List (List Literal)) (bytes : List ℕ) :
    Type 0 where
  pub fed : c.fed ≡ length bytes
  pub holds : Holds c.reading formula bytes

-- the verdict is that on some bytes that a reader gave, which was read no further than it takes,
-- and on all of its bytes, where they are known
pub record IsJudged (old new : Option (List ℕ)) (formula : List (List Literal)) (v : Verdict) :
    Type 0 where
  pub bytes : List ℕ
  pub read : Consumes old new bytes
  pub in_time : (bytes ≡ []) ⊎ ReadsOn (proof_verdict formula) bytes
  pub verdict : v ≡ proof_verdict formula bytes
  pub all : IfSome old (λ all. v ≡ proof_verdict formula all)

-- from one state, where nothing was judged, to the other the checker has judged bytes that the
-- reader gave, which was read no further than the verdict takes
pub record JudgesGiven (old new : CheckerState) (had left : Option (List ℕ)) : Type 0 where
  pub bytes : List ℕ
  pub read : Consumes had left bytes
  pub judged : (formula : List (List Literal)) → HasJudged old formula []
      → HasJudged new formula bytes
  pub in_time : (formula : List (List Literal)) → HasJudged old formula []
      → (bytes ≡ []) ⊎ ReadsOn (proof_verdict formula) bytes
