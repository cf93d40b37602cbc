-- The names of what is left, where live clauses move together.
use Rattle.std.specs.Prelude.{List, [], ◌∷◌, Some, None}
use Rattle.clauses.specs.Slots.{Slots}
use Rattle.lrat_log.specs.declared.lines.Name.{Name}

-- those of the live clauses, in their order
abbrev pub live_names : List Name → Slots → List Name
live_names [] slots = []
live_names (n ∷ names) [] = []
live_names (n ∷ names) (None ∷ slots) = live_names names slots
live_names (n ∷ names) (Some c ∷ slots) = n ∷ live_names names slots
