-- The reasons of literals under new references.
use Rattle.std.specs.Prelude.{ℕ, List, map, Option, Some, None}
use Rattle.std.specs.Option.{option_map}
use Rattle.clauses.specs.Slots.{Renaming, renamed}
use Rattle.clauses.specs.Moved.{named}
use Rattle.propagate_trail.specs.Trail.{Assigned}

abbrev pub named_reason : Renaming → Option ℕ → Option ℕ
named_reason moves reason = option_map (named moves) reason

abbrev pub named_trail : Renaming → List Assigned → List Assigned
named_trail moves trail =
    map (λ a. record { literal = a.literal; reason = named_reason moves a.reason }) trail

-- the same where a reason that was not kept is none
abbrev pub renamed_reason : Renaming → Option ℕ → Option ℕ
renamed_reason moves None = None
renamed_reason moves (Some r) = renamed moves r

abbrev pub renamed_trail : Renaming → List Assigned → List Assigned
renamed_trail moves trail =
    map (λ a. record { literal = a.literal; reason = renamed_reason moves a.reason }) trail
