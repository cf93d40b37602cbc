use Rattle.std.proofs.Common.{drop}
use Rattle.lrat_live.specs.Counts.{AreTaken}
use Rattle.lrat_live.specs.Near.{all_of}
use Rattle.lrat_live.proofs.live.take_shown.Given as goal

abbrev pub invariant-loop-id : goal.invariant-loop-id
invariant-loop-id l =
    AreTaken (l.wanted).lit (all_of l.near l.far) l.left l.before (drop l.id-index l.ids)
    → AreTaken (l.wanted).lit (all_of l.near l.far) (l.wanted).total 0 l.ids
