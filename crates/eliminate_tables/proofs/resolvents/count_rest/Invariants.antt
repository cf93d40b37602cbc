-- There are `count` literals so far, none of which clashes.
use Rattle.std.proofs.Common.{◌≡◌, ◌≤◌, false, length, take}
use Rattle.std.specs.List.{list_any}
use Rattle.eliminate_tables.specs.Resolvents.{unmarked_rest, clashes}
use Rattle.eliminate_tables.proofs.resolvents.count_rest.Given as goal

abbrev pub invariant-loop-lit : goal.invariant-loop-lit
invariant-loop-lit l = record {
  count : l.count ≡ length (unmarked_rest l.marks l.left_out (take l.lit-index l.lits));
  few : l.count ≤ l.lit-index;
  plain : list_any (clashes l.marks) (unmarked_rest l.marks l.left_out (take l.lit-index l.lits))
      ≡ false;
}
