-- What was found, with the false ones of the clauses that are left, is all.
use Rattle.std.proofs.Common.{◌≡◌, ◌+◌, ◌++◌, length}
use Rattle.cnf.specs.Bits.{assignment_of}
use Rattle.explain.specs.Falsified.{false_hard, false_hard_from}
use Rattle.explain.proofs.falsified.broken.Given as goal

abbrev pub invariant-loop-clause : goal.invariant-loop-clause
invariant-loop-clause l = record {
  found : l.broken.items
      ++ false_hard_from (assignment_of l.fn.bits) l.place l.clause-iterator
      ≡ false_hard l.fn.instance l.fn.bits;
  counted : l.place + length l.clause-iterator ≡ length l.fn.instance.hard;
}
