-- What was counted, with what is kept of the clauses that are left, is all.
use Rattle.std.proofs.Common.{◌≡◌, ◌+◌, length}
use Rattle.std.specs.Prelude.{All}
use Rattle.cnf.specs.Instance.{IsClauseWithin}
use Rattle.bound.specs.Bound.{kept}
use Rattle.bound.proofs.encoding.count_hard.Given as goal

abbrev pub invariant-loop-clause : goal.invariant-loop-clause
invariant-loop-clause l = record {
  counted : l.count + length (kept l.clause-iterator) ≡ length (kept l.fn.instance.hard);
  marks : length l.marks ≡ length l.initial.marks;
  left : All (IsClauseWithin l.fn.instance.variables) l.clause-iterator;
}
