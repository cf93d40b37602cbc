-- A search that a guide leads, and what it keeps while its parts change.
use Rattle.std.specs.Prelude.{◌≡◌}
use Rattle.cdcl.specs.declared.guided.turns.Course.{Course}

-- the same search still, over what was given to it, with the same log and budget
abbrev pub HoldsSame : {S : Type 0} → Course S → Course S → Type 0
HoldsSame old new = ((new.search).ghost_name ≡ (old.search).ghost_name)
    × ((new.input).now ≡ (old.input).now)
    × ((new.sink).ghost_name ≡ (old.sink).ghost_name)
    × ((new.budget).ghost_name ≡ (old.budget).ghost_name)
