-- The literals so far are marked, but for the one that is left out, and no others.
use Rattle.std.proofs.Common.{◌≡◌, length, take}
use Rattle.cnf.specs.Clause.{without_literal}
use Rattle.cnf.specs.Marks.{IsMarked}
use Rattle.cnf.proofs.marks.Marks.mark_without.Given as goal

abbrev pub invariant-loop-lit : goal.invariant-loop-lit
invariant-loop-lit l = record {
  long : length l.self ≡ length l.fn.self;
  marked : IsMarked l.self (without_literal l.left_out (take l.lit-index l.lits));
}
