-- The form that a certificate ends with.
use Rattle.std.specs.Prelude.{◌≡◌, ℕ, ◌+◌, Bool, true, false, List, [], ◌∷◌, ◌++◌, Option, Some}
use Rattle.std.specs.Prelude.{None}
use Rattle.std.specs.Prelude.{Ok, IsErr}
use Rattle.cnf.specs.Problem.{Problem}
use Rattle.text.specs.Text.{token_lines}
use Rattle.lrat_read.specs.Words.{NamedFact, WordLine, CountLine, MoreLine, GroupLine, FormLine}
use Rattle.lrat_read.specs.Words.{CutLine, BoundLine, word_line_of}
use Rattle.lrat_cuts.specs.Cuts.{CutsState}
use Rattle.lrat_cuts.specs.Machine.{MachineState, judged_after}
use Rattle.lrat_cuts.specs.Verdict.{ended_part, judged_text}

-- the facts of the present form after a line that spells this, if it begins with a word
abbrev pub facts_after : List NamedFact → Option (Option WordLine) → List NamedFact
facts_after fs None = fs
facts_after fs (Some None) = fs
facts_after fs (Some (Some (CountLine outputs inputs))) = fs
facts_after fs (Some (Some (MoreLine number))) = fs
facts_after fs (Some (Some (GroupLine inputs ids))) = fs
facts_after fs (Some (Some (FormLine None more))) = fs ++ more
facts_after fs (Some (Some (FormLine (Some scale) facts))) = facts
facts_after fs (Some (Some (CutLine c))) = fs
facts_after fs (Some (Some (BoundLine lower))) = fs

-- the facts of the present form after lines, each as its tokens
abbrev pub form_facts : List NamedFact → List (List (List ℕ)) → List NamedFact
form_facts fs [] = fs
form_facts fs (ts ∷ more) = form_facts (facts_after fs (word_line_of ts)) more

-- the lines that a line feed ends, each as its tokens
abbrev pub ended_lines : List ℕ → List (List (List ℕ))
ended_lines bytes = token_lines (ended_part bytes)

-- what the lines leave, and the facts of the present form
pub record LastFormState : Type 0 where
  pub state : CutsState
  pub facts : List NamedFact

-- it is that of a certificate, of which the lines count that a line feed ends
pub record IsLastForm (f : LastFormState) (p : Problem) (proof : List ℕ) : Type 0 where
  pub judged : judged_text None p (ended_part proof) ≡ Ok f.state
  pub facts : f.facts ≡ form_facts [] (ended_lines proof)

-- a line leads on to a state and to facts; or it is faulty
abbrev pub TakesLine : MachineState → List NamedFact → List (List ℕ) → Bool → MachineState
    → List NamedFact → Type 0
TakesLine old fs ts true new gs =
    ((more : List (List (List ℕ))) → judged_after old (ts ∷ more) ≡ judged_after new more)
    × (gs ≡ facts_after fs (word_line_of ts)) × (new.lines ≡ old.lines + 1)
TakesLine old fs ts false new gs =
    (more : List (List (List ℕ))) → IsErr (judged_after old (ts ∷ more))

-- lines lead on to a state and to facts; or one is faulty
abbrev pub TakesLines : MachineState → List NamedFact → List (List (List ℕ)) → Bool
    → MachineState → List NamedFact → Type 0
TakesLines old fs lines true new gs =
    (judged_after old lines ≡ Ok new.state) × (gs ≡ form_facts fs lines)
TakesLines old fs lines false new gs = IsErr (judged_after old lines)
