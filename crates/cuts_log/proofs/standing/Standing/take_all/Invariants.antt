-- The clauses that are left come to what all of them do.
use Rattle.std.proofs.Common.{◌≡◌}
use Rattle.cuts_log.specs.Stands.{with_clauses}
use Rattle.cuts_log.proofs.standing.Standing.take_all.Given as goal

abbrev pub invariant-loop-clause : goal.invariant-loop-clause
invariant-loop-clause l = with_clauses l.clause-iterator l.self ≡ with_clauses l.fn.clauses
    l.fn.self
