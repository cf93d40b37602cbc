-- A text that is read in pieces.
use Rattle.std.specs.Prelude.{◌≡◌, ℕ, Bool, true, List, [], ◌++◌, Option, Err, IfSome, ◌⊎◌}
use Rattle.std.specs.List.{enumerate_from}
use Rattle.std.specs.Str.Lines.{lines}
use Rattle.text.specs.Text.{tokens_of, numbered_text}
use Rattle.text.specs.Pieces.{IsCut}
use Rattle.wcnf.specs.Drafts.{Drafted, nothing_drafted, drafted_line}
use Rattle.wcnf.specs.Reading.{drafted_lines, IsFirstFault}
use Rattle.wcnf.specs.declared.faults.ReadFault.{ReadFault}
use Rattle.wcnf.specs.declared.faults.FaultKind.TheVariants.{Memory, Read}
use Rattle.wcnf.specs.declared.parser.Parser.{Parser}

-- the parser has read these bytes: from its draft, which the ended lines make, the text reads on,
-- whatever comes after them, and it keeps what follows the last line feed
pub record HasRead (p : Parser) (bytes : List ℕ) : Type 0 where
  pub done : List ℕ
  pub cut : IsCut bytes done p.rest
  pub resumes : (more : List ℕ) → drafted_lines p.draft (enumerate_from p.number (lines more))
      ≡ drafted_lines nothing_drafted (numbered_text (done ++ more))

-- the draft is that of all lines of the bytes
abbrev pub Ends : Drafted → List ℕ → Type 0
Ends d bytes = drafted_lines d [] ≡ drafted_lines nothing_drafted (numbered_text bytes)

abbrev pub NoMemory : ReadFault → Type 0
NoMemory f = f ≡ record { kind = Memory; line = 0 }

-- the fault of this line, after the lines that make the draft
abbrev pub IsLineFault : Drafted → ℕ → List ℕ → ReadFault → Type 0
IsLineFault d n line f =
    NoMemory f ⊎ ((drafted_line n d (tokens_of line) ≡ Err f.kind) × (f.line ≡ n))

-- the first fault of the text, which is in the piece
abbrev pub Refuses : Parser → List ℕ → ReadFault → Type 0
Refuses p piece f =
    NoMemory f ⊎ ((bytes more : List ℕ) → HasRead p bytes
    → IsFirstFault (bytes ++ piece ++ more) f.kind f.line)

-- the reader has failed, and this says so
abbrev pub TellsFailure : Bool → ReadFault → Type 0
TellsFailure has_failed f = (has_failed ≡ true) × (f ≡ record { kind = Read; line = 0 })

-- the first fault of a text, which is all that the reader gave, where that is known
pub record IsFaultOf (known : Option (List ℕ)) (f : ReadFault) : Type 0 where
  pub text : List ℕ
  pub is : IsFirstFault text f.kind f.line
  pub all : IfSome known (λ text. IsFirstFault text f.kind f.line)
