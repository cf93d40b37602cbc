-- If the clauses that are left can be spelled, all can.
use Rattle.std.specs.Prelude.{All}
use Rattle.std.specs.List.{AllByRecursion}
use Rattle.cnf.specs.Lrat.{IsId}
use Rattle.cuts_log.proofs.standing.limits_of_each.Given as goal

abbrev pub invariant-loop-clause : goal.invariant-loop-clause
invariant-loop-clause l =
    AllByRecursion (λ c. All (λ k. IsId k.variable) c) l.clause-iterator
    → AllByRecursion (λ c. All (λ k. IsId k.variable) c) l.fn.clauses
