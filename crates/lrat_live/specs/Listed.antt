-- The live clauses of a certificate as a list, each with its id, in rising id.
use Rattle.std.specs.Prelude.{ℕ, ◌+◌, Bool, true, false, not, ◌&&◌, List, [], ◌∷◌, map, filter}
use Rattle.std.specs.Prelude.{Some, None, ◌==◌, if◌then◌else◌}
use Rattle.std.specs.List.Sorted.{IsStrictlyIncreasing}
use Rattle.cnf.specs.Literal.{Literal}
use Rattle.cnf.specs.Clause.{contains_literal}
use Rattle.cnf.specs.Refute.{Clauses}

abbrev pub Listed : Type 0
Listed = List (ℕ × List Literal)

-- clauses under the ids from n on
abbrev pub listed_from : ℕ → List (List Literal) → List (ℕ × List Literal)
listed_from n [] = []
listed_from n (c ∷ cs) = (n, c) ∷ listed_from (n + 1) cs

abbrev pub ids_of : List (ℕ × List Literal) → List ℕ
ids_of es = map (λ e. e.0) es

-- the clause under an id
abbrev pub listed_at : List (ℕ × List Literal) → Clauses
listed_at [] i = None
listed_at (e ∷ es) i = if e.0 == i then Some e.1 else listed_at es i

-- all but the clause under an id
abbrev pub without_id : ℕ → List (ℕ × List Literal) → List (ℕ × List Literal)
without_id i es = filter (λ e. not (e.0 == i)) es

-- the ids of the clauses with a literal
abbrev pub ids_listed : Literal → List (ℕ × List Literal) → List ℕ
ids_listed l es = ids_of (filter (λ e. contains_literal l e.1) es)

abbrev pub same_ids : List ℕ → List ℕ → Bool
same_ids [] [] = true
same_ids (i ∷ is) (j ∷ js) = (i == j) && same_ids is js
same_ids other others = false

-- what is known of each list of live clauses
abbrev pub IsRising : List (ℕ × List Literal) → Type 0
IsRising es = IsStrictlyIncreasing (ids_of es)
