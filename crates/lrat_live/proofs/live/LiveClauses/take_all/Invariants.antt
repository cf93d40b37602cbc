use Rattle.std.proofs.Common.{◌≡◌, drop}
use Rattle.lrat_live.specs.Counts.{take_all, times_at}
use Rattle.lrat_live.proofs.live.LiveClauses.take_all.Given as goal

abbrev pub invariant-loop-id : goal.invariant-loop-id
invariant-loop-id l =
    take_all (times_at l.lit l.self) l.total 0 l.ids ≡ take_all (times_at l.lit l.self) l.left
    l.before (drop l.id-index l.ids)
