-- The table of marks keeps its size; there are `count` resolvents so far, none of which is long.
use Rattle.std.proofs.Common.{◌≡◌, ◌≤◌, ◌*◌, true, length, take}
use Rattle.std.specs.Prelude.{sum_by}
use Rattle.std.specs.List.{list_all}
use Rattle.clauses.specs.Slots.{clauses_under}
use Rattle.eliminate_tables.specs.Worthwhile.{are_short, resolvent_count}
use Rattle.eliminate_tables.proofs.worthwhile.is_worthwhile.Given as goal

abbrev pub invariant-loop-first : goal.invariant-loop-first
invariant-loop-first l = record {
  len : length l.marks ≡ length l.fn.marks;
  count : l.count ≡ sum_by (λ c. resolvent_count l.pivot c (clauses_under l.store.slots l.seconds))
      (take l.first-index (clauses_under l.store.slots l.firsts));
  short : list_all (λ c. are_short l.pivot c (clauses_under l.store.slots l.seconds))
      (take l.first-index (clauses_under l.store.slots l.firsts)) ≡ true;
  few : l.count ≤ 10 * l.first-index;
}
