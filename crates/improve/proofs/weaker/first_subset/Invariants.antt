-- The clauses before this one are no subsets.
use Rattle.std.proofs.Common.{◌≡◌, ◌+◌, drop}
use Rattle.lrat_log.specs.Log.{clauses_in}
use Rattle.improve.specs.Weaker.{first_subset}
use Rattle.improve.proofs.weaker.first_subset.Given as goal

abbrev pub invariant-loop-place : goal.invariant-loop-place
invariant-loop-place l = record {
  number : l.number + l.start ≡ l.first + l.place;
  rest : first_subset l.first (drop l.start (clauses_in l.given)) l.lits
      ≡ first_subset l.number (drop l.place (clauses_in l.given)) l.lits;
}
