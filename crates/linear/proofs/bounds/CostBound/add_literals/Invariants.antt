-- The literals that are left make of the rest so far what all of them make of the old one.
use Rattle.std.proofs.Common.{◌≡◌, ◌+◌, ◌*◌, ◌≤◌, drop}
use Rattle.std.specs.Int.RustNames.{unsigned_abs}
use Rattle.linear.specs.Linear.{plus_literals}
use Rattle.linear.proofs.bounds.CostBound.add_literals.Given as goal

abbrev pub invariant-loop-lit : goal.invariant-loop-lit
invariant-loop-lit l = record {
  added : plus_literals l.weight (drop l.lit-index l.lits) (l.self.form).added
      ≡ plus_literals l.weight l.lits (l.fn.self.form).added;
  cost : (l.self.form).cost ≡ (l.fn.self.form).cost;
  scale : (l.self.form).scale ≡ (l.fn.self.form).scale;
  fixed : (l.self.form).fixed ≡ (l.fn.self.form).fixed;
  weights : l.self.weights ≡ l.fn.self.weights;
  mass : l.self.mass ≤ l.fn.self.mass + 2 * unsigned_abs l.weight * l.lit-index;
}
