-- Clauses in one list of literals, each with the place where it ends.
use Rattle.std.specs.Prelude.{◌≡◌, ℕ, zero, suc, ◌<◌, ◌≤◌, ◌^◌, List, [], ◌∷◌, length, slice_range}
use Rattle.cnf.specs.Literal.{Literal}

-- each clause begins where the one before it ends, the first at a place that is given
abbrev pub cut_from : ℕ → List Literal → List ℕ → List (List Literal)
cut_from start literals [] = []
cut_from start literals (end ∷ ends) = slice_range literals start end ∷ cut_from end literals ends

-- the places rise, from one to another
abbrev pub RiseTo : ℕ → List ℕ → ℕ → Type 0
RiseTo start [] last = start ≡ last
RiseTo start (end ∷ ends) last = (start ≤ end) × RiseTo end ends last

pub record AreCut (literals : List Literal) (ends : List ℕ) : Type 0 where
  pub rise : RiseTo 0 ends (length literals)
  pub few : length literals < 2 ^ 32

-- where the clause at a place begins
abbrev pub start_at : ℕ → List ℕ → ℕ → ℕ
start_at start ends zero = start
start_at start [] (suc place) = start
start_at start (end ∷ ends) (suc place) = start_at end ends place
