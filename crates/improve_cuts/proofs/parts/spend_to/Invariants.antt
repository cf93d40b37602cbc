-- As many units were spent as clauses were learned, and none beyond what is wanted.
use Rattle.std.proofs.Common.{◌≡◌, ◌≤◌}
use Rattle.cdcl_order.specs.Budgets.{left_of}
use Rattle.improve_cuts.proofs.parts.spend_to.Given as goal

abbrev pub invariant-loop-budget : goal.invariant-loop-budget
invariant-loop-budget l = record {
  paid : l.budget ≡ record l.fn.budget { learned = (l.budget).learned };
  just : l.fn.most ≤ left_of l.fn.budget → l.fn.most ≤ left_of l.budget;
  none : left_of l.fn.budget ≤ l.fn.most → l.budget ≡ l.fn.budget;
}

abbrev pub decreases-loop-budget : goal.decreases-loop-budget
decreases-loop-budget l = left_of l.budget
