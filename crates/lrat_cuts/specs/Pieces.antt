-- A checker of forms and cuts that is handed the certificate in pieces.
use Rattle.std.specs.Prelude.{◌≡◌, ℕ, ◌≤◌, Bool, List, [], ◌∷◌, ◌++◌, length, Option, Some, None}
use Rattle.std.specs.Prelude.{Err, IsOk, ◌⊎◌}
use Rattle.std.specs.Io.KnownBytes.{Consumes}
use Rattle.cnf.specs.Problem.{Problem}
use Rattle.text.specs.declared.watched.TheConstants.{READ_SIZE}
use Rattle.text.specs.Text.{token_lines, tokens_of}
use Rattle.text.specs.Pieces.{IsCut, IsEnded}
use Rattle.lrat_machine.specs.declared.verdicts.Cause.{Cause}
use Rattle.lrat_cuts.specs.Machine.{MachineState, judged_after}
use Rattle.lrat_cuts.specs.Verdict.{ended_part, judged_text}

-- what the pieces so far leave
pub record ReadingState : Type 0 where
  -- after the lines that a line feed has ended, up to the first fault
  pub machine : MachineState
  -- what follows the last line feed
  pub rest : List ℕ
  -- the first fault and its line
  pub refused : Option (Cause × ℕ)

-- no ended line of the bytes is faulty: the rest is what follows the last of them, and the machine
-- goes on from there, whatever comes
pub record IsOpen (r : ReadingState) (cost : Option ℕ) (p : Problem) (bytes : List ℕ) : Type 0 where
  pub done : List ℕ
  pub cut : IsCut bytes done r.rest
  pub resumes : (more : List ℕ)
      → judged_after r.machine (token_lines more) ≡ judged_text cost p (done ++ more)

-- this is the first fault of the ended lines of the bytes, whatever comes
pub record IsRefused (e : Cause × ℕ) (cost : Option ℕ) (p : Problem) (bytes : List ℕ) :
    Type 0 where
  pub done : List ℕ
  pub after : List ℕ
  pub split : bytes ≡ done ++ after
  pub ended : IsEnded done
  pub stays : (more : List ℕ) → judged_text cost p (done ++ more) ≡ Err e

-- this is what these bytes leave, over an instance
pub record Holds (r : ReadingState) (cost : Option ℕ) (p : Problem) (bytes : List ℕ) : Type 0 where
  pub open_end : r.refused ≡ None → IsOpen r cost p bytes
  pub refused : (e : Cause × ℕ) → r.refused ≡ Some e → IsRefused e cost p bytes

-- the line leads on to a state, or it is the first fault
abbrev pub Judges : MachineState → List ℕ → MachineState → Option (Cause × ℕ) → Type 0
Judges old line new None =
    (more : List (List (List ℕ)))
    → judged_after old (tokens_of line ∷ more) ≡ judged_after new more
Judges old line new (Some e) =
    (more : List (List (List ℕ))) → judged_after old (tokens_of line ∷ more) ≡ Err e

pub record CheckerState : Type 0 where
  pub reading : ReadingState
  -- how many bytes came in
  pub fed : ℕ
  -- memory was refused
  pub failed : Bool

-- the checker has judged these bytes over an instance, where cuts have to hold for a cost, if
-- there is one
pub record HasJudged (c : CheckerState) (cost : Option ℕ) (p : Problem) (bytes : List ℕ) :
    Type 0 where
  pub fed : c.fed ≡ length bytes
  pub holds : Holds c.reading cost p bytes

-- behind the bytes before, the last piece of what was read came where no ended line was faulty
pub record ReadsOn (cost : Option ℕ) (p : Problem) (before bytes : List ℕ) : Type 0 where
  pub front : List ℕ
  pub piece : List ℕ
  pub split : bytes ≡ front ++ piece
  pub small : length piece ≤ READ_SIZE
  pub is_open : IsOk (judged_text cost p (ended_part (before ++ front)))

-- from one state to the other, the checker has judged bytes that the reader gave, which was read no
-- further than the first fault takes
pub record JudgesMore (old new : CheckerState) (had left : Option (List ℕ)) : Type 0 where
  pub bytes : List ℕ
  pub read : Consumes had left bytes
  pub judged : (cost : Option ℕ) (p : Problem) (before : List ℕ) → HasJudged old cost p before
      → HasJudged new cost p (before ++ bytes)
  pub in_time : (cost : Option ℕ) (p : Problem) (before : List ℕ) → HasJudged old cost p before
      → (bytes ≡ []) ⊎ ReadsOn cost p before bytes
