-- The literals so far are marked.
use Rattle.std.proofs.Common.{◌≡◌, true, take}
use Rattle.cnf.specs.Marks.{are_marked}
use Rattle.cnf.proofs.marks.Marks.has_all.Given as goal

abbrev pub invariant-loop-lit : goal.invariant-loop-lit
invariant-loop-lit l = are_marked l.self (take l.lit-index l.lits) ≡ true
