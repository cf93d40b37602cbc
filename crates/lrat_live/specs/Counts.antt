-- How often literals stand in the live clauses, and the candidates of a RAT line by these counts.
use Rattle.std.specs.Prelude.{◌≡◌, ℕ, ◌+◌, ◌-◌, ◌<◌, ◌≤◌, Bool, true, false, List, []}
use Rattle.std.specs.Prelude.{◌∷◌, Option, Some, None}
use Rattle.std.specs.Prelude.{nat_lt, nat_le, ◌==◌, ◌&&◌, if◌then◌else◌}
use Rattle.cnf.specs.Numbers.{one_if}
use Rattle.cnf.specs.Literal.{Literal, literal_eq, index_of}
use Rattle.lrat_live.specs.Listed.{listed_at}

-- how often the literal stands in the clause
abbrev pub times_in : Literal → List Literal → ℕ
times_in l [] = 0
times_in l (k ∷ c) = one_if (literal_eq l k) + times_in l c

abbrev pub times_of : Literal → Option (List Literal) → ℕ
times_of l None = 0
times_of l (Some c) = times_in l c

-- how often it stands in the clauses
abbrev pub times : Literal → List (ℕ × List Literal) → ℕ
times l [] = 0
times l (e ∷ es) = times_in l e.1 + times l es

-- by its index, each literal has a count that says how often it stands in the clauses
abbrev pub AreCounts : (ℕ → ℕ) → List (ℕ × List Literal) → Type 0
AreCounts counts es = (l : Literal) → 0 < l.variable → counts (index_of l) ≡ times l es

-- the clause came, and its counts
abbrev pub AreRaised : (ℕ → ℕ) → List Literal → (ℕ → ℕ) → Type 0
AreRaised old c new =
    (l : Literal) → 0 < l.variable
    → new (index_of l) ≡ old (index_of l) + times_in l c

-- the clause went, and its counts
abbrev pub AreLowered : (ℕ → ℕ) → List Literal → (ℕ → ℕ) → Type 0
AreLowered old c new =
    (l : Literal) → 0 < l.variable
    → new (index_of l) ≡ old (index_of l) - times_in l c

-- the next id is above the last one, and its clause has the literal, though not more often than is
-- left
abbrev pub is_next : ℕ → ℕ → ℕ → ℕ → Bool
is_next before id count left = nat_lt before id && nat_lt 0 count && nat_le count left

-- the clauses of these ids, which rise, have the literal in all places that are left
abbrev pub take_all : (ℕ → ℕ) → ℕ → ℕ → List ℕ → Bool
take_all count left before [] = left == 0
take_all count left before (i ∷ is) =
    if is_next before i (count i) left then take_all count (left - count i) i is else false

abbrev pub times_at : Literal → List (ℕ × List Literal) → ℕ → ℕ
times_at l es i = times_of l (listed_at es i)

-- as take_all, where each clause has the literal in at least as many places as are taken
abbrev pub AreTaken : Literal → List (ℕ × List Literal) → ℕ → ℕ → List ℕ → Type 0
AreTaken l es left before [] = left ≡ 0
AreTaken l es left before (i ∷ is) =
    (n : ℕ) × (is_next before i n left ≡ true) × (n ≤ times_at l es i)
    × AreTaken l es (left - n) i is
