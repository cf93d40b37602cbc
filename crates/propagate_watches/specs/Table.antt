-- What is known of a clause by its reference: whether it is attached, and what it watches.
use Rattle.std.specs.Prelude.{◌≡◌, ℕ, ◌+◌, ◌-◌, Bool, true, false, List, ◌++◌, length, replicate}
use Rattle.std.specs.Prelude.{slice_index_or, ◌⊎◌}
use Rattle.cnf.specs.Literal.{Literal}
use Rattle.propagate_watches.specs.declared.table.Attachment.{Attachment}
use Rattle.propagate_watches.specs.declared.table.Attachment.TheVariants.{Detached, Waiting}
use Rattle.propagate_watches.specs.declared.table.Attachment.TheVariants.{Satisfied}
use Rattle.propagate_watches.specs.declared.table.Attachment.TheVariants.{Watching}
use Rattle.propagate_watches.specs.declared.table.Rest.{Rest}
use Rattle.propagate_watches.specs.declared.table.Rest.TheVariants.{Nothing, One, Many}

abbrev pub attachment_in : List Attachment → ℕ → Attachment
attachment_in table r = slice_index_or table r Detached

abbrev pub is_kept : Attachment → Bool
is_kept Detached = false
is_kept Waiting = true
is_kept Satisfied = true
is_kept (Watching one other rest) = true

-- what a clause has beside its watches
abbrev pub rest_in : Attachment → Rest
rest_in Detached = Many
rest_in Waiting = Many
rest_in Satisfied = Many
rest_in (Watching one other rest) = rest

abbrev pub IsWatching : Attachment → Literal → Literal → Type 0
IsWatching p one other = p ≡ Watching one other (rest_in p)

abbrev pub IsWatchedBy : Attachment → Literal → Literal → Type 0
IsWatchedBy p one other = IsWatching p one other ⊎ IsWatching p other one

-- what is beside the watches where the only literal there took the place of `w`
abbrev pub rest_after : Literal → Rest → Rest
rest_after w Nothing = Nothing
rest_after w (One third) = One w
rest_after w Many = Many

-- the table has a place for the clause
abbrev pub grown_table : List Attachment → ℕ → List Attachment
grown_table t r = t ++ replicate (r + 1 - length t) Detached
