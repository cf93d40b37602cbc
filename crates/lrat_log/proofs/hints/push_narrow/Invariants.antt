-- The hints before the index were kept, and there is room for the others.
use Rattle.std.proofs.Common.{◌≡◌, ◌+◌, ◌≤◌, ◌++◌, length, take}
use Rattle.std.specs.Vec.{vec_len, vec_capacity}
use Rattle.lrat_log.proofs.hints.push_narrow.Given as goal

abbrev pub invariant-loop-hint : goal.invariant-loop-hint
invariant-loop-hint l = (l.kept.items ≡ l.initial.kept.items ++ take l.hint-index l.hints)
    × (vec_len l.kept + length l.hints ≤ vec_capacity l.kept + l.hint-index)
