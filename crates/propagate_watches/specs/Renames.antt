-- Clauses under new references.
use Rattle.std.specs.Prelude.{◌≡◌, ℕ, ◌<◌, ◌≤◌, true, List, length, map}
use Rattle.clauses.specs.Slots.{Renaming, old_at, new_at}
use Rattle.clauses.specs.Moved.{named}
use Rattle.propagate_watches.specs.declared.pool.WatchEntry.{WatchEntry}
use Rattle.propagate_watches.specs.declared.table.Attachment.{Attachment}
use Rattle.propagate_watches.specs.Table.{attachment_in, is_kept}

abbrev pub named_entry : Renaming → WatchEntry → WatchEntry
named_entry moves w = record { reference = named moves w.reference; blocker = w.blocker }

abbrev pub named_rows : Renaming → List (List WatchEntry) → List (List WatchEntry)
named_rows moves rows = map (map (named_entry moves)) rows

-- each place went to the new reference, and nothing else is left
pub record IsMoved (old new : List Attachment) (moves : Renaming) : Type 0 where
  pub to : (i : ℕ) → i < length moves → attachment_in new (new_at moves i)
      ≡ attachment_in old (old_at moves i)
  pub from : (q : ℕ) → is_kept (attachment_in new q) ≡ true → (i : ℕ) × (i < length moves)
      × (new_at moves i ≡ q)

-- the references below `at` have what goes there, by the first `next` moves
pub record IsMoving (old new : List Attachment) (moves : Renaming) (at next : ℕ) : Type 0 where
  pub later : (j : ℕ) → at ≤ j → attachment_in new j ≡ attachment_in old j
  pub to : (i : ℕ) → i < next → attachment_in new (new_at moves i)
      ≡ attachment_in old (old_at moves i)
  pub from : (j : ℕ) → j < at → is_kept (attachment_in new j) ≡ true → (i : ℕ) × (i < next)
      × (new_at moves i ≡ j)
  pub below : (i : ℕ) → i < next → new_at moves i < at
  pub above : (i : ℕ) → next ≤ i → i < length moves → at ≤ new_at moves i
  pub long : length new ≡ length old
  pub within : next ≤ length moves
