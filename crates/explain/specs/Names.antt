-- The names that comments give to variables: `c 7 = Ann Tue`.
use Rattle.std.specs.Prelude.{ℕ, Bool, false, not, ◌&&◌, List, [], ◌∷◌, ◌++◌, bytes_eq}
use Rattle.std.specs.Prelude.{if◌then◌else◌}
use Rattle.std.specs.List.{flat_map}
use lib.Chars.{codes}
use Rattle.cnf.specs.Bits.{assignment_of}
use Rattle.cnf.specs.Literal.{literal_value}
use Rattle.text.specs.Text.{numbered_text, tokens_of}
use Rattle.text.specs.Words.{word_of}
use Rattle.text.specs.Seen.{seen}
use Rattle.text.specs.declared.words.Word.{Word}
use Rattle.text.specs.declared.words.Word.TheVariants.{End, Literal, Above, Other}
use Rattle.explain_text.specs.Showing.{shown_text}

-- the token is a variable that the bits make true
abbrev pub is_true_variable : List Bool → List ℕ → Bool
is_true_variable bits token = by (seen (word_of token))
  where
    by : Word → Bool
    by (Literal l) = not l.negated && literal_value (assignment_of bits) l
    by End = false
    by Above = false
    by Other = false

-- words, each after a space, and the end of their line
abbrev pub words_text : List (List ℕ) → List ℕ
words_text [] = codes "\n"
words_text (w ∷ ws) = codes " " ++ (shown_text w ++ words_text ws)

abbrev pub name_line : List (List ℕ) → List ℕ
name_line words = codes "true:" ++ words_text words

-- what is written for a line with these tokens
abbrev pub name_text : List Bool → List (List ℕ) → List ℕ
name_text bits (c ∷ v ∷ e ∷ w ∷ ws) =
    if bytes_eq c (codes "c") && (bytes_eq e (codes "=") && is_true_variable bits v)
    then name_line (w ∷ ws) else []
name_text bits other = []

-- the names of all true variables, as the comments of the text have them
abbrev pub names_text : List Bool → List ℕ → List ℕ
names_text bits text = flat_map (λ l. name_text bits (tokens_of l.1)) (numbered_text text)
