-- The variable, and the literals so far without the pair.
use Rattle.std.proofs.Common.{◌≡◌, take}
use Rattle.eliminate_pairs.specs.Pairs.{replaced}
use Rattle.eliminate_pairs.proofs.pairs.replaced_lits.Given as goal

abbrev pub invariant-loop-lit : goal.invariant-loop-lit
invariant-loop-lit l =
    l.left.items ≡ replaced l.definition.variable l.definition.left l.definition.right
    (take l.lit-index l.lits)
