-- The literals before the index are marked, and were held against those before them.
use Rattle.std.proofs.Common.{◌≡◌, length, take}
use Rattle.cnf.specs.Clause.{has_repeat, is_tautology}
use Rattle.cnf.specs.Marks.{IsMarked}
use Rattle.forms.proofs.known.repeats_variable.Given as goal

abbrev pub invariant-loop-lit : goal.invariant-loop-lit
invariant-loop-lit l = record {
  long : length l.marks ≡ length l.initial.marks;
  marked : IsMarked l.marks (take l.lit-index l.lits);
  repeated : l.is_repeated ≡ has_repeat (take l.lit-index l.lits);
  complemented : l.is_complemented ≡ is_tautology (take l.lit-index l.lits);
}
