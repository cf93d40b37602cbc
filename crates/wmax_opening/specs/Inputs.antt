-- What a run begins with, where earlier runs left something.
use Rattle.std.specs.Prelude.{ℕ, Bool, true, Option, Some, None, nat_lt}
use Rattle.wmax_opening.specs.declared.inputs.FirstSolution.{FirstSolution}

-- whether this cost is less than that of the solution with which the search begins, if there is one
abbrev pub undercuts : ℕ → Option FirstSolution → Bool
undercuts cost None = true
undercuts cost (Some start) = nat_lt cost start.cost
