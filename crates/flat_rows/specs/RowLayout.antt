-- Where the rows lie in the block.
use Rattle.std.specs.Prelude.{ℕ, List, ◌+◌, ◌^◌, ◌<◌, ◌≤◌, ◌≢◌, ◌⊎◌, length, map, slice_range}
use Rattle.std.specs.Prelude.{get_or}
use Rattle.flat_rows.specs.declared.rows.RowHead.{RowHead}
use Rattle.flat_rows.specs.Rows.{Roomed}

abbrev pub no_head : RowHead
no_head = record { start = 0; length = 0; room = 0 }

-- the first place behind those that are the row's own
abbrev pub end_of : RowHead → ℕ
end_of r = r.start + r.room

abbrev pub row_of : {A : Type 0} → List A → RowHead → List A
row_of block r = slice_range block r.start (r.start + r.length)

abbrev pub rows_of : {A : Type 0} → List A → List RowHead → List (List A)
rows_of block heads = map (row_of block) heads

abbrev pub rooms_of : List RowHead → List ℕ
rooms_of heads = map (λ (h : RowHead). h.room) heads

abbrev pub roomed : {A : Type 0} → List A → List RowHead → Roomed A
roomed block heads = record { rows = rows_of block heads; rooms = rooms_of heads }

-- each row lies in the part in use, and no two share a place
pub record IsLaid {A : Type 0} (block : List A) (heads : List RowHead) (used : ℕ) : Type 0 where
  pub used_fits : used ≤ length block
  pub small : used < 2 ^ 63
  pub filled : (i : ℕ) → i < length heads
      → (get_or heads i no_head).length ≤ (get_or heads i no_head).room
  pub inside : (i : ℕ) → i < length heads
      → end_of (get_or heads i no_head) ≤ used
  pub apart : (i j : ℕ) → i < length heads → j < length heads → i ≢ j
      → (end_of (get_or heads i no_head) ≤ (get_or heads j no_head).start)
      ⊎ (end_of (get_or heads j no_head) ≤ (get_or heads i no_head).start)
