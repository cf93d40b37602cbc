use Rattle.std.proofs.Common.{◌≡◌, ◌++◌, ◌+◌, ◌-◌}
use Rattle.totalizer.specs.Stages.{sum_clauses}
use Rattle.totalizer.proofs.Sums.{sums_left}
use Rattle.totalizer.proofs.stages.push_sums.Given as goal

abbrev pub invariant-loop-i : goal.invariant-loop-i
invariant-loop-i l =
    l.clauses ++ sums_left l.left l.right l.sum.variable l.i (l.at_least + 1 - l.i)
    ≡ l.initial.clauses ++ sum_clauses l.left l.right l.sum.variable 0 l.at_least
