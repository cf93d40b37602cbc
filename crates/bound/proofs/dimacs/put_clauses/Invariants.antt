-- What was put, and the lines of the clauses that are left, is all.
use Rattle.bound.proofs.Streams.{IsPutUpTo, lines_of}
use Rattle.bound.proofs.dimacs.put_clauses.Given as goal

abbrev pub invariant-loop-clause : goal.invariant-loop-clause
invariant-loop-clause g l =
    IsPutUpTo (g.W.Write.contents l.fn.writer) l.fn.block (lines_of l.fn.clauses)
    (lines_of l.clause-iterator) (g.W.Write.contents l.writer) l.block
