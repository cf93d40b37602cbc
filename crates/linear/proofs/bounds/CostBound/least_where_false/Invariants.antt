-- The literals so far are false.
use Rattle.std.proofs.Common.{◌≡◌, take}
use Rattle.linear.specs.Costs.{falsified, least_where}
use Rattle.linear.proofs.bounds.CostBound.least_where_false.Given as goal

abbrev pub invariant-loop-lit : goal.invariant-loop-lit
invariant-loop-lit l =
    l.total ≡ least_where l.self.form (falsified (take l.lit-index l.lits) (l.self.form).fixed)
