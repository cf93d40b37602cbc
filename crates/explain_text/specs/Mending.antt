-- What is shown of a faulty text.
use Rattle.std.specs.Prelude.{ℕ, Bool, ◌||◌, List, [], ◌∷◌, ◌++◌, length, take, Option, nat_lt}
use Rattle.std.specs.Prelude.{◌==◌, bytes_eq, if◌then◌else◌}
use Rattle.std.specs.Fmt.{decimal}
use Rattle.std.specs.Io.KnownBytes.{Appends}
use lib.Chars.{codes}
use Rattle.text.specs.Text.{numbered_text}
use Rattle.text.specs.Writing.{AppendsPart}
use Rattle.explain_text.specs.Showing.{shown_text}
use Rattle.explain_text.specs.declared.mending.TheConstants.{MOST_SHOWN}

-- the line of this number; nothing where there is none
abbrev pub line_in : List (ℕ × List ℕ) → ℕ → List ℕ
line_in [] n = []
line_in (l ∷ ls) n = if l.0 == n then l.1 else line_in ls n

abbrev pub line_of : List ℕ → ℕ → List ℕ
line_of text n = line_in (numbered_text text) n

-- the text begins as a file of gzip does (RFC 1952), or as one of xz
abbrev pub is_packed : List ℕ → Bool
is_packed text =
    bytes_eq (take 2 text) (31 ∷ 139 ∷ [])
    || bytes_eq (take 6 text) (253 ∷ 55 ∷ 122 ∷ 88 ∷ 90 ∷ 0 ∷ [])

-- bytes as they are shown, and cut off at a limit
abbrev pub cut_text : List ℕ → List ℕ
cut_text bytes =
    if nat_lt MOST_SHOWN (length bytes) then shown_text (take MOST_SHOWN bytes) ++ codes " .."
    else shown_text bytes

-- how the line is shown
abbrev pub shown_line : List ℕ → List ℕ
shown_line line = codes "  " ++ (cut_text line ++ codes "\n")

-- what stands before a word of it: the column, where the line as it is shown lacks the word
abbrev pub place_text : ℕ → List ℕ
place_text column =
    if column == 0 then codes "  here: "
    else codes "  here, column " ++ (decimal column ++ codes ": ")

-- how a word of it is shown
abbrev pub word_line : ℕ → List ℕ → List ℕ
word_line column [] = []
word_line column (b ∷ bs) = place_text column ++ (cut_text (b ∷ bs) ++ codes "\n")

-- the line of this number, and then some advice
pub record Mends (text : List ℕ) (n : ℕ) (out out' : Option (List ℕ)) : Type 0 where
  pub advice : List ℕ
  pub appended : Appends out out' (shown_line (line_of text n) ++ advice)

-- a beginning of that
pub record BreaksMending (text : List ℕ) (n : ℕ) (out out' : Option (List ℕ)) : Type 0 where
  pub advice : List ℕ
  pub part : AppendsPart out out' (shown_line (line_of text n) ++ advice)
