-- The literals before the index were put.
use Rattle.std.proofs.Common.{take}
use Rattle.text.specs.Writing.{PassesOn}
use Rattle.lrat_log.specs.Texts.{literals_text}
use Rattle.lrat_log.proofs.spelling.put_literals.Given as goal

abbrev pub invariant-loop-lit : goal.invariant-loop-lit
invariant-loop-lit g l =
    PassesOn (g.W.Write.contents l.initial.writer) l.initial.block
    (literals_text (take l.lit-index l.lits)) (g.W.Write.contents l.writer) l.block
