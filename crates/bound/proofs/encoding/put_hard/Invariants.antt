-- What was put, and the lines of what is kept of the clauses that are left, is all.
use Rattle.std.proofs.Common.{◌≡◌, length}
use Rattle.std.specs.Prelude.{All}
use Rattle.cnf.specs.Instance.{IsClauseWithin}
use Rattle.bound.specs.Bound.{kept}
use Rattle.bound.proofs.Streams.{IsPutUpTo, lines_of}
use Rattle.bound.proofs.encoding.put_hard.Given as goal

abbrev pub invariant-loop-clause : goal.invariant-loop-clause
invariant-loop-clause g l = record {
  put : IsPutUpTo (g.W.Write.contents l.fn.writer) l.fn.block (lines_of (kept l.fn.instance.hard))
      (lines_of (kept l.clause-iterator)) (g.W.Write.contents l.writer) l.block;
  marks : length l.marks ≡ length l.initial.marks;
  left : All (IsClauseWithin l.fn.instance.variables) l.clause-iterator;
}
