-- The literals before the index are marked, and none of them stands with its negation but where one
-- was found.
use Rattle.std.proofs.Common.{◌≡◌, length, take}
use Rattle.cnf.specs.Clause.{is_tautology}
use Rattle.cnf.specs.Marks.{IsMarked}
use Rattle.cnf.proofs.tautologies.meets_negation.Given as goal

abbrev pub invariant-loop-lit : goal.invariant-loop-lit
invariant-loop-lit l = record {
  long : length l.marks ≡ length l.initial.marks;
  marked : IsMarked l.marks (take l.lit-index l.lits);
  value : l.found ≡ is_tautology (take l.lit-index l.lits);
}
