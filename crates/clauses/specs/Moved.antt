-- The new reference of a clause.
use Rattle.std.specs.Prelude.{ℕ, Option, Some, None}
use Rattle.clauses.specs.Slots.{Renaming, renamed}

abbrev pub name_or : Option ℕ → ℕ → ℕ
name_or None r = r
name_or (Some q) r = q

-- the new reference; one that was not kept stays as it is
abbrev pub named : Renaming → ℕ → ℕ
named moves r = name_or (renamed moves r) r
