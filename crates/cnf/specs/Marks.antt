-- Tables with one mark for each literal, and clauses whose literals are marked.
use Rattle.std.specs.Prelude.{◌≡◌, ℕ, ◌*◌, ◌<◌, ◌≤◌, Bool, true, false, if◌then◌else◌, List}
use Rattle.std.specs.Prelude.{[], ◌∷◌, slice_index_or}
use Rattle.cnf.specs.Literal.{Literal, index_of}
use Rattle.cnf.specs.Clause.{contains_literal}

abbrev pub mark_of : List Bool → Literal → Bool
mark_of marks l = slice_index_or marks (index_of l) false

-- the literals of the clause are marked, and no others
pub record IsMarked (marks : List Bool) (c : List Literal) : Type 0 where
  pub marked : (l : Literal) → 0 < l.variable → mark_of marks l ≡ contains_literal l c

-- the table has places for the literal and for its negation
abbrev pub HasPlace : ℕ → Literal → Type 0
HasPlace rows l = (0 < l.variable) × (2 * l.variable ≤ rows)

-- each literal is marked
abbrev pub are_marked : List Bool → List Literal → Bool
are_marked marks [] = true
are_marked marks (l ∷ c) = if mark_of marks l then are_marked marks c else false
