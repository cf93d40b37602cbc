-- Lines that come in pieces, and what all of them come to.
use Rattle.std.specs.Prelude.{◌≡◌, ℕ, List, [], ◌++◌, length, Option, Some, Ok, Err}
use Rattle.std.specs.Io.KnownBytes.{Appends, Consumes, IsAtEnd}
use Rattle.cnf.specs.Problem.{Problem}
use Rattle.text.specs.Text.{IsNoFeed, token_lines}
use Rattle.bound.specs.Bound.{dimacs_text}
use Rattle.lrat_machine.specs.declared.verdicts.Cause.{Cause}
use Rattle.lrat_cuts.specs.Cuts.{CutsState, cuts_start}
use Rattle.lrat_cuts.specs.Machine.{MachineState, judged_after}
use Rattle.lrat_cuts.specs.Verdict.{judged_text}
use Rattle.lrat_plain.specs.Plain.{made_text, plain_formula, plain_lines, plain_text}
use Rattle.lrat_plain.specs.Names.{names_start}
use Rattle.lrat_plain.specs.Steps.{WritesSteps, IsSteady}
use Rattle.lrat_plain.specs.declared.faults.PlainFault.{PlainFault}
use Rattle.lrat_plain.specs.declared.faults.PlainFault.TheVariants.{Line}
use Rattle.lrat_plain.specs.declared.streams.Run.{Run}
use Rattle.lrat_plain.specs.declared.streams.Sizes.{Sizes}

-- behind what was kept, the bytes end these lines, and leave the start of one more
pub record Reads (kept bytes : List ℕ) (lines : List (List (List ℕ))) (left : List ℕ) :
    Type 0 where
  pub whole : (more : List ℕ)
      → token_lines (kept ++ (bytes ++ more)) ≡ lines ++ token_lines (left ++ more)
  pub no_feed : IsNoFeed left

-- by right lines that these bytes end
pub record RunsOn (old new : Run) (bytes : List ℕ) (had left before after : Option (List ℕ)) :
    Type 0 where
  pub lines : List (List (List ℕ))
  pub reads : Reads old.rest bytes lines new.rest
  pub goes : WritesSteps old.steps new.steps lines had left before after

-- where the fault names a line, it is the first fault of a text that goes on with these bytes
abbrev pub FaultAfter : Run → List ℕ → PlainFault → Type 0
FaultAfter old bytes fault =
    (cause : Cause) (n : ℕ) → fault ≡ Line cause n → (more : List ℕ)
    → judged_after (old.steps).machine (token_lines (old.rest ++ (bytes ++ more)))
    ≡ Err (cause, n)

-- all lines are right that the reader gave
pub record RunsWhole (old new : Run) (had left out out_now other other_now : Option (List ℕ)) :
    Type 0 where
  pub bytes : List ℕ
  pub read : Consumes had left bytes
  pub whole : IsAtEnd left
  pub goes : WritesSteps old.steps new.steps (token_lines (old.rest ++ bytes)) out out_now other
      other_now

-- where the fault names a line, it is the first fault of the text that the reader gives, of which
-- these bytes were read
abbrev pub FaultWithin : MachineState → List ℕ → Option (List ℕ) → Option (List ℕ) → PlainFault
    → Type 0
FaultWithin machine kept had left fault =
    (cause : Cause) (n : ℕ) → fault ≡ Line cause n
    → (bytes : List ℕ) × Consumes had left bytes
    × ((more : List ℕ) → (IsAtEnd left → more ≡ [])
    → judged_after machine (token_lines (kept ++ (bytes ++ more))) ≡ Err (cause, n))

-- the lines of a text are right for a cost, and make what has these sizes
pub record AreSizes (s : Sizes) (cost : ℕ) (p : Problem) (had left : Option (List ℕ)) : Type 0 where
  pub bytes : List ℕ
  pub read : Consumes had left bytes
  pub whole : IsAtEnd left
  pub state : CutsState
  pub judged : judged_text (Some cost) p bytes ≡ Ok state
  pub made : s.made ≡ length (made_text (Some cost) p bytes)
  pub variables : s.variables ≡ (state.forms).variables

-- and the formula and the plain certificate are written
pub record IsWritten (cost : ℕ) (p : Problem) (had left out out_now other other_now :
    Option (List ℕ)) : Type 0 where
  pub bytes : List ℕ
  pub read : Consumes had left bytes
  pub whole : IsAtEnd left
  pub state : CutsState
  pub judged : judged_text (Some cost) p bytes ≡ Ok state
  pub formula : Appends out out_now (dimacs_text (plain_formula (Some cost) p bytes state))
  pub certificate : Appends other other_now (plain_text (plain_lines (Some cost) p bytes))

-- where the fault names a line, it is the first fault of the text that the reader gives
abbrev pub IsFirstFault : ℕ → Problem → Option (List ℕ) → Option (List ℕ) → PlainFault → Type 0
IsFirstFault cost p had left fault =
    (cause : Cause) (n : ℕ) → fault ≡ Line cause n
    → (bytes : List ℕ) × Consumes had left bytes
    × ((more : List ℕ) → (IsAtEnd left → more ≡ [])
    → judged_text (Some cost) p (bytes ++ more) ≡ Err (cause, n))

-- a run over an instance before the first byte
pub record IsBegun (cost : ℕ) (p : Problem) (given all : ℕ) (r : Run) : Type 0 where
  pub machine : (r.steps).machine
      ≡ record { state = cuts_start p; cost = Some cost; lines = 0; made = [] }
  pub names : (r.steps).names ≡ names_start given all
  pub steady : IsSteady r.steps
  pub formula : (r.steps).formula ≡ []
  pub certificate : (r.steps).certificate ≡ []
  pub rest : r.rest ≡ []
