-- There are `count` resolvents so far, none of which is long.
use Rattle.std.proofs.Common.{◌≡◌, ◌≤◌, true, take}
use Rattle.clauses.specs.Slots.{clauses_under}
use Rattle.eliminate_tables.specs.Worthwhile.{are_short, resolvent_count}
use Rattle.eliminate_tables.proofs.worthwhile.count_resolvents.Given as goal

abbrev pub invariant-loop-second : goal.invariant-loop-second
invariant-loop-second l = record {
  count : l.count ≡ resolvent_count l.pivot l.lits
      (take l.second-index (clauses_under l.store.slots l.seconds));
  short : are_short l.pivot l.lits (take l.second-index (clauses_under l.store.slots l.seconds))
      ≡ true;
  few : l.count ≤ l.second-index;
}
