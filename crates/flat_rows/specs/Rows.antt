-- A list of rows of any entries.
use Rattle.std.specs.Prelude.{◌≡◌, ℕ, ◌*◌, ◌-◌, ◌^◌, List, [], ◌++◌, length, min, max}
use Rattle.std.specs.Prelude.{slice_index_or, slice_set, take, drop}
use Rattle.flat_rows.specs.declared.rows.TheConstants.{FIRST_ROOM}

abbrev pub row_at : {A : Type 0} → List (List A) → ℕ → List A
row_at rows i = slice_index_or rows i []

abbrev pub with_row : {A : Type 0} → List (List A) → ℕ → List A → List (List A)
with_row rows i row = slice_set rows i row

-- the row without its entries from place `write` to place `read`
abbrev pub closed_row : {A : Type 0} → ℕ → ℕ → List A → List A
closed_row write read row = take write row ++ drop read row

-- rows, and how many entries each can have before it moves
pub record Roomed (A : Type 0) : Type 0 where
  pub rows : List (List A)
  pub rooms : List ℕ

abbrev pub room_at : List ℕ → ℕ → ℕ
room_at rooms i = slice_index_or rooms i 0

-- the row has no place left
abbrev pub IsFull : {A : Type 0} → Roomed A → ℕ → Type 0
IsFull r i = length (row_at r.rows i) ≡ room_at r.rooms i

-- the room of a row that is full: `FIRST_ROOM` at first, and at most 2^32 - 1
abbrev pub doubled_room : ℕ → ℕ
doubled_room room = max (min (room * 2) (2 ^ 32 - 1)) FIRST_ROOM
