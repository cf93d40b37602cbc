-- What was found, with the false ones of the clauses that are left, is all.
use Rattle.std.proofs.Common.{◌≡◌, ◌++◌, drop}
use Rattle.cnf.specs.Bits.{assignment_of}
use Rattle.explain.specs.Falsified.{false_soft, false_soft_from}
use Rattle.explain.proofs.falsified.falsified_soft.Given as goal

abbrev pub invariant-loop-soft : goal.invariant-loop-soft
invariant-loop-soft l = record {
  found : l.falsified.items
      ++ false_soft_from (assignment_of l.fn.bits) l.place (drop l.soft-index l.soft-items)
      ≡ false_soft l.fn.instance l.fn.bits;
  counted : l.place ≡ l.soft-index;
}
