-- What a reader of lines that begin with a word says of the tokens that it read.
use Rattle.std.specs.Prelude.{◌≡◌, ℕ, Bool, false, List, Option, Some, None}
use Rattle.cnf.specs.Literal.{Literal}
use Rattle.lrat_read.specs.Reader.{is_large_clause}
use Rattle.lrat_read.specs.Words.{NamedFact, WordLine, CountLine, MoreLine, GroupLine, FormLine}
use Rattle.lrat_read.specs.Words.{CutLine, BoundLine, word_line_of}
use Rattle.lrat_read.specs.declared.word_reader.WordForm.{WordForm}
use Rattle.lrat_read.specs.declared.word_reader.WordForm.TheVariants.{NoWord, Malformed, Count}
use Rattle.lrat_read.specs.declared.word_reader.WordForm.TheVariants.{More, Group, Form}
use Rattle.lrat_read.specs.declared.word_reader.WordForm.TheVariants.{FurtherFacts, Cut, Bound}

-- what a reader holds
pub record WordState : Type 0 where
  -- the outputs of a count, the number of a count, a scale or a lower bound
  pub number : ℕ
  -- the literals, but for those whose variable is too large
  pub literals : List Literal
  -- there was such a literal
  pub is_large : Bool
  pub ids : List ℕ
  pub facts : List NamedFact

-- these are the literals that were read
pub record AreLitsOf (c : List Literal) (s : WordState) : Type 0 where
  pub large : is_large_clause c ≡ s.is_large
  pub same : s.is_large ≡ false → c ≡ s.literals

-- the line, if it begins with a word, was read so
abbrev pub IsHeld : Option (Option WordLine) → WordForm → WordState → Type 0
IsHeld line NoWord s = line ≡ None
IsHeld line Malformed s = line ≡ Some None
IsHeld line Count s =
    (c : List Literal) × (line ≡ Some (Some (CountLine s.number c))) × AreLitsOf c s
IsHeld line More s = line ≡ Some (Some (MoreLine s.number))
IsHeld line Group s =
    (c : List Literal) × (line ≡ Some (Some (GroupLine c s.ids))) × AreLitsOf c s
IsHeld line Form s = line ≡ Some (Some (FormLine (Some s.number) s.facts))
IsHeld line FurtherFacts s = line ≡ Some (Some (FormLine None s.facts))
IsHeld line Cut s = (c : List Literal) × (line ≡ Some (Some (CutLine c))) × AreLitsOf c s
IsHeld line Bound s = line ≡ Some (Some (BoundLine s.number))

-- what was read of a line with these tokens
abbrev pub IsWordRead : List (List ℕ) → WordForm → WordState → Type 0
IsWordRead ts form s = IsHeld (word_line_of ts) form s
