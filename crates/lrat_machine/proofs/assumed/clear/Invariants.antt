use Rattle.std.proofs.Common.{ℕ, ◌≤◌, ◌-◌, length, take}
use Rattle.lrat_machine.specs.Assumed.{AreValues}
use Rattle.lrat_machine.proofs.assumed.clear.Given as goal

abbrev pub invariant-loop-left : goal.invariant-loop-left
invariant-loop-left l = record {
  from : l.len ≤ l.left;
  within : l.left ≤ length l.trail;
  table : (n : ℕ) → AreValues l.fn.values n l.trail → AreValues l.values n (take l.left l.trail);
}

abbrev pub decreases-loop-left : goal.decreases-loop-left
decreases-loop-left l = l.left - l.len
