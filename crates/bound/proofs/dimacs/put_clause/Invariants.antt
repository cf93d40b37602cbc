-- The literals before the index were put, each with a space.
use Rattle.std.proofs.Common.{take}
use Rattle.text.specs.Writing.{PassesOn}
use Rattle.bound.proofs.Lines.{literals_text}
use Rattle.bound.proofs.dimacs.put_clause.Given as goal

abbrev pub invariant-loop-lit : goal.invariant-loop-lit
invariant-loop-lit g l =
    PassesOn (g.W.Write.contents l.initial.writer) l.initial.block
    (literals_text (take l.lit-index l.lits)) (g.W.Write.contents l.writer) l.block
