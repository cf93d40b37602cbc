-- The literals so far are marked, and no others.
use Rattle.std.proofs.Common.{◌≡◌, length, take}
use Rattle.cnf.specs.Marks.{IsMarked}
use Rattle.cnf.proofs.marks.Marks.mark_all.Given as goal

abbrev pub invariant-loop-lit : goal.invariant-loop-lit
invariant-loop-lit l = record {
  long : length l.self ≡ length l.fn.self;
  marked : IsMarked l.self (take l.lit-index l.lits);
}
