-- The hints before the index were moved.
use Rattle.std.proofs.Common.{◌≡◌, map, take}
use Rattle.lrat_log.specs.Rebase.{moved_hint}
use Rattle.lrat_log.proofs.rebase.move_hints.Given as goal

abbrev pub invariant-loop-index : goal.invariant-loop-index
invariant-loop-index l = l.moved.items ≡ take l.index (map (moved_hint l.fixed l.count) l.hints)
