-- The tokens of a line, where they are at most three.
use Rattle.std.specs.Prelude.{◌≡◌, ℕ, List, [], ◌∷◌}
use Rattle.lrat_result.specs.declared.words.Words.{Words}
use Rattle.lrat_result.specs.declared.words.Words.TheVariants.{None, One, Two, Three, More}

abbrev pub HasWords : List (List ℕ) → Words → Type 0
HasWords ts None = ts ≡ []
HasWords ts (One a) = ts ≡ a.now ∷ []
HasWords ts (Two a b) = ts ≡ a.now ∷ b.now ∷ []
HasWords ts (Three a b c) = ts ≡ a.now ∷ b.now ∷ c.now ∷ []
HasWords ts (More a) =
    (b : List ℕ) × (c : List ℕ) × (d : List ℕ) × (more : List (List ℕ))
    × (ts ≡ a.now ∷ b ∷ c ∷ d ∷ more)
