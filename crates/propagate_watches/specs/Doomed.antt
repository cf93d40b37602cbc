-- Clauses that are to be detached, marked by reference.
use Rattle.std.specs.Prelude.{◌≡◌, ℕ, ◌<◌, ◌≤◌, Bool, true, false, not, List, length, filter, map}
use Rattle.std.specs.Prelude.{slice_index_or}
use Rattle.propagate_watches.specs.declared.pool.WatchEntry.{WatchEntry}
use Rattle.propagate_watches.specs.declared.table.Attachment.{Attachment}
use Rattle.propagate_watches.specs.declared.table.Attachment.TheVariants.{Detached}
use Rattle.propagate_watches.specs.Table.{attachment_in}

-- whether the clause is marked; those past the end are not
abbrev pub is_doomed : List Bool → ℕ → Bool
is_doomed doomed r = slice_index_or doomed r false

abbrev pub spared_entries : List Bool → List WatchEntry → List WatchEntry
spared_entries doomed row = filter (λ w. not (is_doomed doomed w.reference)) row

abbrev pub spared_rows : List Bool → List (List WatchEntry) → List (List WatchEntry)
spared_rows doomed rows = map (spared_entries doomed) rows

-- what is doomed has no place, and the rest has the place that it had
pub record IsSpared (doomed : List Bool) (old new : List Attachment) : Type 0 where
  pub gone : (r : ℕ) → is_doomed doomed r ≡ true → attachment_in new r ≡ Detached
  pub stays : (r : ℕ) → is_doomed doomed r ≡ false → attachment_in new r ≡ attachment_in old r

-- the same of the references below `at`, and the others as they were
pub record IsSparing (doomed : List Bool) (old new : List Attachment) (at : ℕ) : Type 0 where
  pub long : length new ≡ length old
  pub gone : (r : ℕ) → r < at → is_doomed doomed r ≡ true → attachment_in new r ≡ Detached
  pub stays : (r : ℕ) → is_doomed doomed r ≡ false → attachment_in new r ≡ attachment_in old r
  pub later : (r : ℕ) → at ≤ r → attachment_in new r ≡ attachment_in old r
