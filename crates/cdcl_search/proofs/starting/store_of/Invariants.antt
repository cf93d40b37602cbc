-- The clauses so far, with those that are left, are all.
use Rattle.std.proofs.Common.{◌≡◌, ◌++◌, map, Some}
use Rattle.cdcl_search.proofs.starting.store_of.Given as goal

abbrev pub invariant-loop-clause : goal.invariant-loop-clause
invariant-loop-clause l = (l.store).slots ++ map Some l.clause-iterator ≡ map Some l.clauses
