-- A store of clauses: a clause for each live reference.
use Rattle.std.specs.Prelude.{◌≡◌, ℕ, ◌+◌, ◌≤◌, List, [], ◌∷◌, map, Option, Some, None, slice_get}
use Rattle.std.specs.Prelude.{All, ◌==◌, if◌then◌else◌, sum_by, length, slice_index_or, unwrap_or}
use Rattle.cnf.specs.Literal.{Literal}
use Rattle.cnf.specs.Refute.{Clauses}

-- the clause of reference r stands at place r; none where it was deleted
abbrev pub Slots : Type 0
Slots = List (Option (List Literal))

pub record StoreState : Type 0 where
  pub slots : List (Option (List Literal))
  -- the room that is taken, also by deleted clauses
  pub used : ℕ

abbrev pub in_slot : Option (Option (List Literal)) → Option (List Literal)
in_slot None = None
in_slot (Some slot) = slot

abbrev pub clause_at : Slots → Clauses
clause_at slots r = in_slot (slice_get slots r)

-- the clause under a reference; without literals, where there is none
abbrev pub clause_under : Slots → ℕ → List Literal
clause_under slots r = unwrap_or (clause_at slots r) []

abbrev pub clauses_under : Slots → List ℕ → List (List Literal)
clauses_under slots references = map (clause_under slots) references

abbrev pub IsLive : Slots → ℕ → Type 0
IsLive slots r = (c : List Literal) × (clause_at slots r ≡ Some c)

-- the live references, rising
abbrev pub places_from : ℕ → Slots → List ℕ
places_from n [] = []
places_from n (None ∷ slots) = places_from (n + 1) slots
places_from n (Some c ∷ slots) = n ∷ places_from (n + 1) slots

abbrev pub live_places : Slots → List ℕ
live_places slots = places_from 0 slots

-- the live clauses, in rising reference
abbrev pub live_clauses : Slots → List (List Literal)
live_clauses [] = []
live_clauses (None ∷ slots) = live_clauses slots
live_clauses (Some c ∷ slots) = c ∷ live_clauses slots

abbrev pub room_of : List (List Literal) → ℕ
room_of cs = sum_by (λ c. length c + 1) cs

-- old and new references
abbrev pub Renaming : Type 0
Renaming = List (ℕ × ℕ)

abbrev pub renamed : Renaming → ℕ → Option ℕ
renamed [] r = None
renamed (m ∷ ms) r = if m.0 == r then Some m.1 else renamed ms r

-- the references of a move
abbrev pub old_at : Renaming → ℕ → ℕ
old_at moves i = (slice_index_or moves i (0, 0)).0

abbrev pub new_at : Renaming → ℕ → ℕ
new_at moves i = (slice_index_or moves i (0, 0)).1

-- the moves that bring the live clauses together, after `old` references of which `new` are live
abbrev pub moves_from : ℕ → ℕ → Slots → Renaming
moves_from old new [] = []
moves_from old new (None ∷ slots) = moves_from (old + 1) new slots
moves_from old new (Some c ∷ slots) = (old, new) ∷ moves_from (old + 1) (new + 1) slots

abbrev pub moves_of : Slots → Renaming
moves_of slots = moves_from 0 0 slots

-- the moves list each live reference once, on both sides rising, keep the clauses, and raise no
-- reference
pub record IsRenaming (old new : Slots) (moves : Renaming) : Type 0 where
  pub from : map (λ m. m.0) moves ≡ live_places old
  pub to : map (λ m. m.1) moves ≡ live_places new
  pub lower : All (λ m. m.1 ≤ m.0) moves
  pub same : All (λ m. clause_at new m.1 ≡ clause_at old m.0) moves
