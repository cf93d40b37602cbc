use Rattle.std.proofs.Common.{take}
use Rattle.lrat_live.specs.Counts.{AreRaised}
use Rattle.lrat_live.specs.Pages.{count_in}
use Rattle.lrat_live.proofs.counts.raise.Given as goal

abbrev pub invariant-loop-lit : goal.invariant-loop-lit
invariant-loop-lit l =
    AreRaised (count_in l.fn.counts) (take l.lit-index l.clause) (count_in l.counts)
