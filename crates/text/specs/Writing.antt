-- Texts of tokens, and what a writer has of a text.
use Rattle.std.specs.Prelude.{◌≡◌, ℕ, Bool, true, ◌&&◌, nat_lt, ◌==◌, List, [], ◌∷◌, ◌++◌, length}
use Rattle.std.specs.Prelude.{Option, Result, Ok, Err}
use Rattle.std.specs.Io.KnownBytes.{Appends}

-- tokens with single spaces, and a line feed
abbrev pub spaced : List (List ℕ) → List ℕ
spaced [] = 10 ∷ []
spaced (t ∷ []) = t ++ 10 ∷ []
spaced (t ∷ u ∷ ts) = t ++ 32 ∷ spaced (u ∷ ts)

-- the same without the line feed
abbrev pub joined : List (List ℕ) → List ℕ
joined [] = []
joined (t ∷ []) = t
joined (t ∷ u ∷ ts) = t ++ 32 ∷ joined (u ∷ ts)

-- the text begins with part
abbrev pub Begins : List ℕ → List ℕ → Type 0
Begins part text = (rest : List ℕ) × (text ≡ part ++ rest)

-- known bytes grow by a beginning of the text
abbrev pub AppendsPart : Option (List ℕ) → Option (List ℕ) → List ℕ → Type 0
AppendsPart old new text = (part : List ℕ) × Begins part text × Appends old new part

-- a writer by way of a block, where the text comes after what the block held: what the writer took,
-- and what the block holds then
pub record PassesOn (old : Option (List ℕ)) (held : List ℕ) (text : List ℕ) (new : Option (List ℕ))
    (left : List ℕ) : Type 0 where
  pub written : List ℕ
  pub appended : Appends old new written
  pub split : held ++ text ≡ written ++ left

-- what a writer has of a text: all where its writing went well, else a beginning
abbrev pub Writes : {T E : Type 0} → Result T E → Option (List ℕ) → List ℕ → Option (List ℕ)
    → Type 0
Writes (Ok x) old text new = Appends old new text
Writes (Err e) old text new = AppendsPart old new text

-- the same by way of a block: where it went well the writer and the block have what was held and
-- the text, else the writer has a beginning of them
abbrev pub Puts : {T E : Type 0} → Result T E → Option (List ℕ) → List ℕ → List ℕ
    → Option (List ℕ) → List ℕ → Type 0
Puts (Ok x) old held text new left = PassesOn old held text new left
Puts (Err e) old held text new left = AppendsPart old new (held ++ text)

-- a write fails by an error, or where it takes none of some bytes
abbrev pub write_fails : {E : Type 0} → Result ℕ E → List ℕ → Bool
write_fails (Ok n) bytes = (n == 0) && nat_lt 0 (length bytes)
write_fails (Err e) bytes = true
