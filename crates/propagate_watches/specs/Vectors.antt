-- Worked rows, a worked table, and references that move.
use Rattle.std.specs.Prelude.{◌≡◌, ℕ, true, false, List, [], ◌∷◌, refl}
use Rattle.cnf.specs.Literal.{positive as p}
use Rattle.clauses.specs.Slots.{Renaming, old_at, new_at}
use Rattle.propagate_watches.specs.declared.pool.WatchEntry.{WatchEntry}
use Rattle.propagate_watches.specs.declared.table.Attachment.{Attachment}
use Rattle.propagate_watches.specs.declared.table.Attachment.TheVariants.{Detached, Waiting}
use Rattle.propagate_watches.specs.declared.table.Attachment.TheVariants.{Watching}
use Rattle.propagate_watches.specs.declared.table.Rest.TheVariants.{One}
use Rattle.propagate_watches.specs.Pool.{row_at, with_row, closed_row}
use Rattle.propagate_watches.specs.Table.{attachment_in, is_kept, rest_in, rest_after, grown_table}
use Rattle.propagate_watches.specs.Doomed.{is_doomed, spared_rows}
use Rattle.propagate_watches.specs.Renames.{named_rows}

entry : ℕ → WatchEntry
entry r = record { reference = r; blocker = p 1 }

rows : List (List WatchEntry)
rows = [] ∷ (entry 0 ∷ entry 1 ∷ entry 2 ∷ []) ∷ []

row : row_at rows 1 ≡ entry 0 ∷ entry 1 ∷ entry 2 ∷ []
unfolding rows
row = refl

no_row : row_at rows 2 ≡ []
unfolding rows
no_row = refl

put : with_row rows 1 [] ≡ [] ∷ [] ∷ []
unfolding rows
put = refl

closed : closed_row 1 2 (row_at rows 1) ≡ entry 0 ∷ entry 2 ∷ []
unfolding rows
closed = refl

-- the clause 0 is not attached, 1 waits, and 2 watches 2 and 3
table : List Attachment
table = Detached ∷ Waiting ∷ Watching (p 2) (p 3) (One (p 4)) ∷ []

detached : is_kept (attachment_in table 0) ≡ false
unfolding table
detached = refl

waits : is_kept (attachment_in table 1) ≡ true
unfolding table
waits = refl

beyond : attachment_in table 3 ≡ Detached
unfolding table
beyond = refl

rest : rest_in (attachment_in table 2) ≡ One (p 4)
unfolding table
rest = refl

rest_moved : rest_after (p 2) (One (p 4)) ≡ One (p 2)
rest_moved = refl

grown : grown_table (Waiting ∷ []) 2 ≡ Waiting ∷ Detached ∷ Detached ∷ []
grown = refl

large_enough : grown_table (Waiting ∷ []) 0 ≡ Waiting ∷ []
large_enough = refl

marked : is_doomed (false ∷ true ∷ []) 1 ≡ true
marked = refl

not_marked : is_doomed (false ∷ true ∷ []) 2 ≡ false
not_marked = refl

spared : spared_rows (false ∷ true ∷ []) rows ≡ [] ∷ (entry 0 ∷ entry 2 ∷ []) ∷ []
unfolding rows entry
spared = refl

-- the clause 1 is gone, and 2 takes its place
moves : Renaming
moves = (0, 0) ∷ (2, 1) ∷ []

old : old_at moves 1 ≡ 2
unfolding moves
old = refl

new : new_at moves 1 ≡ 1
unfolding moves
new = refl

renamed_rows : named_rows moves ((entry 0 ∷ entry 2 ∷ []) ∷ []) ≡ (entry 0 ∷ entry 1 ∷ []) ∷ []
unfolding moves entry
renamed_rows = refl
