-- Occurrence lists: rows of references, one for each literal.
use Rattle.std.specs.Prelude.{◌≡◌, ℕ, ◌<◌, Bool, true, false, List, [], ◌∷◌, ◌++◌, length, Option}
use Rattle.std.specs.Prelude.{Some, None, Contains, filter, fold}
use Rattle.std.specs.Prelude.{◌-◌, ◌/◌, nat_lt, slice_set, if◌then◌else◌}
use Rattle.cnf.specs.Literal.{Literal, index_of}
use Rattle.cnf.specs.Clause.{contains_literal}
use Rattle.clauses.specs.Slots.{Slots, clause_at}
pub use Rattle.flat_rows.specs.Rows.{Roomed, row_at, with_row, room_at, doubled_room, IsFull}

-- a reference more in the row of a literal
abbrev pub with_entry : ℕ → List (List ℕ) → Literal → List (List ℕ)
with_entry r rows l = with_row rows (index_of l) (row_at rows (index_of l) ++ r ∷ [])

-- a clause in the rows of its literals
abbrev pub with_clause_rows : List (List ℕ) → List Literal → ℕ → List (List ℕ)
with_clause_rows rows c r = fold (with_entry r) rows c

abbrev pub is_some : Option (List Literal) → Bool
is_some None = false
is_some (Some c) = true

-- whether the store has a clause under this reference
abbrev pub has_clause : Slots → ℕ → Bool
has_clause slots r = is_some (clause_at slots r)

-- rows of which one has lost the references that have no clause
abbrev pub cleaned : List (List ℕ) → Slots → ℕ → List (List ℕ)
cleaned rows slots i = with_row rows i (filter (has_clause slots) (row_at rows i))

-- rows of which one that is full has lost the references that have no clause; where that leaves
-- less than an eighth of its room, it has twice as much
abbrev pub with_space : Roomed ℕ → Slots → ℕ → Roomed ℕ
with_space r slots i =
    let room = room_at r.rooms i in
    let left = cleaned r.rows slots i in
    if nat_lt (length (row_at r.rows i)) room then r else record {
      rows = left;
      rooms = if nat_lt (room - room / 8) (length (row_at left i))
          then slice_set r.rooms i (doubled_room room) else r.rooms;
    }

-- each live clause stands in the rows of its literals, and live ones in no others; what stands in a
-- row was added before
pub record AreRows (rows : List (List ℕ)) (slots : Slots) : Type 0 where
  pub complete : (r : ℕ) (c : List Literal) (l : Literal) → clause_at slots r ≡ Some c
      → contains_literal l c ≡ true → Contains (row_at rows (index_of l)) r
  pub right : (r : ℕ) (c : List Literal) (l : Literal) → 0 < l.variable → clause_at slots r ≡ Some c
      → Contains (row_at rows (index_of l)) r → contains_literal l c ≡ true
  pub before : (i r : ℕ) → Contains (row_at rows i) r → r < length slots
