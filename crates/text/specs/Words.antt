-- What a token of a clause line says.
use Rattle.std.specs.Prelude.{ℕ, List, [], ◌∷◌, Option, Some, None, ◌==◌, if◌then◌else◌}
use Rattle.cnf.specs.Literal.{Literal}
use Rattle.text.specs.Text.{literal_of}

-- what a token says
pub data Word : Type 0 where
  Zero : Word
  Literal_word : Literal → Word
  Other : Word

abbrev pub word_of : List ℕ → Word
word_of t = by (literal_of t) t
  where
    by : Option Literal → List ℕ → Word
    by (Some l) u = Literal_word l
    by None (b ∷ []) = if b == 48 then Zero else Other
    by None other = Other
