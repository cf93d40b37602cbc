-- What was put, and the lines of the clauses that are left, is all.
use Rattle.bound.specs.Bound.{dimacs_clause}
use Rattle.std.specs.List.{flat_map}
use Rattle.lrat_plain.proofs.Texts.{IsPutUpTo}
use Rattle.lrat_plain.proofs.spelling.put_clauses.Given as goal

abbrev pub invariant-loop-clause : goal.invariant-loop-clause
invariant-loop-clause g l =
    IsPutUpTo (g.W.Write.contents l.fn.writer) l.fn.block (flat_map dimacs_clause l.fn.clauses)
    (flat_map dimacs_clause l.clause-iterator) (g.W.Write.contents l.writer) l.block
