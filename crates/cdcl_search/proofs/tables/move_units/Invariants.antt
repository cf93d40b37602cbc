use Rattle.std.proofs.Common.{◌≡◌, ◌++◌, map, take, drop}
use Rattle.propagate.specs.Fits.{renamed_reason}
use Rattle.cdcl_search.proofs.tables.move_units.Given as goal

abbrev pub invariant-loop-unit : goal.invariant-loop-unit
invariant-loop-unit l =
    l.units ≡ map (renamed_reason l.moves) (take l.unit-index l.initial.units) ++ drop l.unit-index
    l.initial.units
