-- Putting a clause into a bin begins no pass.
use Rattle.std.proofs.Common.{◌≡◌}
use Rattle.eliminate_tables.proofs.bins.Bins.connect.Given as goal

abbrev pub invariant-loop-gap : goal.invariant-loop-gap
invariant-loop-gap l = l.self-inside.first_new ≡ l.fn.self
