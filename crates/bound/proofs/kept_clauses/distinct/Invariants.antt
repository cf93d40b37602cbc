-- What is there so far is the literals before the index, each once.
use Rattle.std.proofs.Common.{◌≡◌, take}
use Rattle.cnf.specs.Clause.{distinct}
use Rattle.bound.proofs.kept_clauses.distinct.Given as goal

abbrev pub invariant-loop-lit : goal.invariant-loop-lit
invariant-loop-lit l = l.once.items ≡ distinct (take l.lit-index l.lits)
