-- At least `count` clauses with the pair stand below the place.
use Rattle.std.proofs.Common.{◌<◌, ◌≤◌, take}
use Rattle.eliminate_pairs.specs.Pairs.{meetings}
use Rattle.eliminate_pairs.proofs.standing.stand_often.Given as goal

abbrev pub invariant-loop-place : goal.invariant-loop-place
invariant-loop-place l =
    (l.count < 4)
    × (l.count ≤ meetings l.pair.left l.pair.right (take l.from l.store.slots))
