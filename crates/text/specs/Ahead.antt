-- What stands at the beginning of the bytes of a line.
use Rattle.std.specs.Prelude.{◌≡◌, ℕ, ◌<◌, ◌≤◌, true, false, List, ◌∷◌, length, take, Some}
use Rattle.std.specs.Prelude.{slice_index}
use Rattle.std.specs.List.{position_or_len}
use Rattle.cnf.specs.Literal as literals
use Rattle.cnf.specs.declared.limits.TheConstants.{MOST_VARIABLES}
use Rattle.text.specs.Text.{is_blank, is_digit, value_on, number_of, capped}
use Rattle.text.specs.Words as words
use Rattle.text.specs.Seen.{seen}
use Rattle.text.specs.declared.words.Word.{Word}

-- the first n bytes are digits, with this value up to the limit, and no digit comes after them
pub record BeginsWithDigits (bytes : List ℕ) (v n : ℕ) : Type 0 where
  pub digits : (k : ℕ) → k < n → is_digit (slice_index bytes k) ≡ true
  pub value : v ≡ capped (value_on 0 (take n bytes))
  pub end : n < length bytes → is_digit (slice_index bytes n) ≡ false
  pub within : n ≤ length bytes

-- the first n bytes spell a variable within the limit, and a blank or nothing comes after them
pub record BeginsWithVariable (bytes : List ℕ) (v n : ℕ) : Type 0 where
  pub number : number_of (take n bytes) ≡ Some v
  pub positive : 0 < v
  pub most : v ≤ MOST_VARIABLES
  pub token : position_or_len is_blank bytes ≡ n
  pub within : n ≤ length bytes

-- the first n bytes are a token that spells a literal within the limit
pub record BeginsWithLiteral (bytes : List ℕ) (l : literals.Literal) (n : ℕ) : Type 0 where
  pub word : words.word_of (take n bytes) ≡ words.Literal_word l
  pub most : l.variable ≤ MOST_VARIABLES
  pub token : position_or_len is_blank bytes ≡ n
  pub some : 0 < n
  pub within : n ≤ length bytes

-- w is what the first of the tokens says, and left are those after it
abbrev pub IsNextWord : List (List ℕ) → Word → List (List ℕ) → Type 0
IsNextWord ts w left = (t : List ℕ) × (ts ≡ t ∷ left) × (w ≡ seen (words.word_of t))
