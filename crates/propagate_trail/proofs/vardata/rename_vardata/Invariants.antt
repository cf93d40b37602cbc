use Rattle.std.proofs.Common.{◌≡◌, ◌++◌, map, take, drop}
use Rattle.propagate_trail.specs.Vardata.{named_var_data}
use Rattle.propagate_trail.proofs.vardata.rename_vardata.Given as goal

abbrev pub invariant-loop-data : goal.invariant-loop-data
invariant-loop-data l =
    l.vardata ≡ map (named_var_data l.moves) (take l.data-index l.initial.vardata)
    ++ drop l.data-index l.initial.vardata
