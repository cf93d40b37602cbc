use Rattle.std.proofs.Common.{take}
use Rattle.lrat_live.specs.Counts.{AreLowered}
use Rattle.lrat_live.specs.Pages.{count_in}
use Rattle.lrat_live.proofs.counts.lower.Given as goal

abbrev pub invariant-loop-lit : goal.invariant-loop-lit
invariant-loop-lit l =
    AreLowered (count_in l.fn.counts) (take l.lit-index l.clause) (count_in l.counts)
