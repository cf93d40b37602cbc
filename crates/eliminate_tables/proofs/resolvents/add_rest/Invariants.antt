-- The literals so far, none of which clashes.
use Rattle.std.proofs.Common.{◌≡◌, ◌++◌, false, take}
use Rattle.std.specs.List.{list_any}
use Rattle.eliminate_tables.specs.Resolvents.{unmarked_rest, clashes}
use Rattle.eliminate_tables.proofs.resolvents.add_rest.Given as goal

abbrev pub invariant-loop-lit : goal.invariant-loop-lit
invariant-loop-lit l = record {
  built : l.out.items ≡ l.fn.out.items ++ unmarked_rest l.marks l.left_out
      (take l.lit-index l.lits);
  plain : list_any (clashes l.marks) (unmarked_rest l.marks l.left_out (take l.lit-index l.lits))
      ≡ false;
}
