-- The stamps so far are 0.
use Rattle.std.proofs.Common.{ℕ, ◌<◌, get_or}
use Rattle.cnf.proofs.marks.next_stamp.Given as goal

abbrev pub invariant-loop-stamp : goal.invariant-loop-stamp
invariant-loop-stamp l = (k : ℕ) → k < l.stamp-index → (d : ℕ) → get_or l.stamps k d < 1
