-- Clauses, each with the number of the first of some others that is a subset of it.
use Rattle.std.specs.Prelude.{ℕ, ◌+◌, List, [], ◌∷◌, map, if◌then◌else◌}
use Rattle.cnf.specs.Literal.{Literal}
use Rattle.cnf.specs.Clause.{is_subset}
use Rattle.lrat_log.specs.Rebase.{WeakerList}

-- from this number on, the number of the first clause that is a subset of c
abbrev pub first_subset : ℕ → List (List Literal) → List Literal → ℕ
first_subset n [] c = n
first_subset n (d ∷ ds) c = if is_subset d c then n else first_subset (n + 1) ds c

-- the clauses before, each with the number of the first of the last ones that is a subset of it;
-- the last ones have the numbers from `first` on
abbrev pub weaker_among : ℕ → List (List Literal) → List (List Literal) → WeakerList
weaker_among first last before = map (λ c. (c, first_subset first last c)) before
