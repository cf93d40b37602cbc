-- What was copied, with the clauses that are left, is all.
use Rattle.std.proofs.Common.{◌≡◌, ◌++◌, false}
use Rattle.std.specs.Prelude.{All}
use Rattle.cnf.specs.Clause.{has_repeat}
use Rattle.bound.proofs.comparators.copy_clauses.Given as goal

abbrev pub invariant-loop-clause : goal.invariant-loop-clause
invariant-loop-clause l = record {
  copied : l.owned.items ++ l.clause-iterator ≡ l.clauses;
  left : All (λ c. has_repeat c ≡ false) l.clause-iterator;
}
