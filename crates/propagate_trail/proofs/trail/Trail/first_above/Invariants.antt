use Rattle.std.proofs.Common.{◌-◌, ◌+◌, ◌≤◌, ◌<◌, length, take}
use Rattle.propagate_trail.specs.Trail.{depth_of}
use Rattle.propagate_trail.proofs.trail.Trail.first_above.Given as goal

abbrev pub invariant-loop-first : goal.invariant-loop-first
invariant-loop-first l = (l.first ≤ l.end) × (l.end ≤ length l.self.assigned)
    × (depth_of (take l.first l.self.assigned) ≤ l.level)
    × (l.end < length l.self.assigned → l.level < depth_of (take (l.end + 1) l.self.assigned))

abbrev pub decreases-loop-first : goal.decreases-loop-first
decreases-loop-first l = l.end - l.first
