-- The literals so far.
use Rattle.std.proofs.Common.{◌≡◌, ◌++◌, take}
use Rattle.cnf.specs.Clause.{without_literal}
use Rattle.eliminate_tables.proofs.resolvents.add_others.Given as goal

abbrev pub invariant-loop-lit : goal.invariant-loop-lit
invariant-loop-lit l =
    l.out.items ≡ l.fn.out.items ++ without_literal l.left_out (take l.lit-index l.lits)
