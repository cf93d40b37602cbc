use Rattle.std.proofs.Common.{◌≡◌, ◌-◌, ◌≤◌, length, take}
use Rattle.propagate_trail.specs.Trail.{depth_of}
use Rattle.propagate_trail.specs.Tables.{assigned_by, IsTrail}
use Rattle.propagate_trail.proofs.trail.undo.Given as goal

abbrev pub invariant-loop-at : goal.invariant-loop-at
invariant-loop-at l = (l.keep ≤ l.at) × (l.at ≤ length l.literals)
    × (l.vardata.reasons ≡ l.initial.vardata.reasons)
    × IsTrail l.variables (take l.at l.literals) l.values.items l.vardata.levels
    l.vardata.positions l.vardata.reasons
    (depth_of (assigned_by l.vardata.reasons (take l.at l.literals))) l.variables

abbrev pub decreases-loop-at : goal.decreases-loop-at
decreases-loop-at l = l.at - l.keep
