-- The literals so far are on other variables.
use Rattle.std.proofs.Common.{take}
use Rattle.std.specs.List.{AllByRecursion}
use Rattle.eliminate_pairs.specs.Pairs.{IsOnOther}
use Rattle.eliminate_pairs.proofs.standing.lacks.Given as goal

abbrev pub invariant-loop-lit : goal.invariant-loop-lit
invariant-loop-lit l = AllByRecursion (IsOnOther l.variable) (take l.lit-index l.lits)
