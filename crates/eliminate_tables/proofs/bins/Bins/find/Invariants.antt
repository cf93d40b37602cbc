-- The search begins no pass.
use Rattle.std.proofs.Common.{◌≡◌}
use Rattle.eliminate_tables.proofs.bins.Bins.find.Given as goal

abbrev pub invariant-loop-row : goal.invariant-loop-row
invariant-loop-row l = l.self ≡ l.fn.self

abbrev pub invariant-loop-lit : goal.invariant-loop-lit
invariant-loop-lit l = l.self ≡ l.fn.self
