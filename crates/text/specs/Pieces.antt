-- A text that comes in pieces, which may end anywhere.
use Rattle.std.specs.Prelude.{◌≡◌, ℕ, List, [], ◌∷◌, ◌++◌, ◌⊎◌}
use Rattle.text.specs.Text.{IsNoFeed}

-- lines that are each ended by a line feed
abbrev pub EndsInFeed : List ℕ → Type 0
EndsInFeed bytes = (front : List ℕ) × (bytes ≡ front ++ 10 ∷ [])

-- nothing, or such lines
abbrev pub IsEnded : List ℕ → Type 0
IsEnded bytes = (bytes ≡ []) ⊎ EndsInFeed bytes

-- the bytes are the ended lines and what follows the last line feed
pub record IsCut (bytes done rest : List ℕ) : Type 0 where
  pub split : bytes ≡ done ++ rest
  pub ended : IsEnded done
  pub unfinished : IsNoFeed rest

-- the bytes before the first line feed of the text, and those behind it
pub record IsFirstLine (text line rest : List ℕ) : Type 0 where
  pub split : text ≡ (line ++ 10 ∷ []) ++ rest
  pub no_feed : IsNoFeed line

-- all but the left part of the piece was taken: what held of the bytes before it leads on to what
-- holds of those up to there
pub record HasTaken (old new : List ℕ → Type 0) (piece left : List ℕ) : Type 0 where
  pub taken : List ℕ
  pub split : piece ≡ taken ++ left
  pub holds : (bytes : List ℕ) → old bytes → new (bytes ++ taken)
