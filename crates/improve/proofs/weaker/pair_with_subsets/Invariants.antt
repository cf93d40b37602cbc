-- The clauses before have their numbers.
use Rattle.std.proofs.Common.{◌≡◌, ◌-◌, ◌≤◌, take, drop}
use Rattle.lrat_log.specs.Log.{clauses_in}
use Rattle.lrat_log.specs.Rebase.{weaker_list}
use Rattle.improve.specs.Weaker.{weaker_among}
use Rattle.improve.proofs.weaker.pair_with_subsets.Given as goal

abbrev pub invariant-loop-place : goal.invariant-loop-place
invariant-loop-place l = record {
  low : l.start ≤ l.place;
  paired : weaker_list l.weaker.items ≡ weaker_among l.first (drop l.end (clauses_in l.given))
      (take (l.place - l.start) (drop l.start (clauses_in l.given)));
}
