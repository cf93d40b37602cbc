use Rattle.std.proofs.Common.{take}
use Rattle.std.specs.List.{AllByRecursion}
use Rattle.propagate.specs.Watches.{IsVariable}
use Rattle.propagate_bench.proofs.loading.is_within.Given as goal

abbrev pub invariant-loop-lit : goal.invariant-loop-lit
invariant-loop-lit l = AllByRecursion (IsVariable l.vars) (take l.lit-index l.lits)
