-- What is kept stands no later than it stood.
use Rattle.std.proofs.Common.{◌≤◌}
use Rattle.eliminate_tables.proofs.bins.clean.Given as goal

abbrev pub invariant-loop-k : goal.invariant-loop-k
invariant-loop-k l = l.kept ≤ l.k
