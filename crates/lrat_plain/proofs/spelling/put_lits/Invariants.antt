-- The literals before the index were put.
use Rattle.std.proofs.Common.{take}
use Rattle.text.specs.Writing.{PassesOn}
use Rattle.lrat_plain.proofs.Texts.{lits_text}
use Rattle.lrat_plain.proofs.spelling.put_lits.Given as goal

abbrev pub invariant-loop-lit : goal.invariant-loop-lit
invariant-loop-lit g l =
    PassesOn (g.W.Write.contents l.initial.writer) l.initial.block
    (lits_text (take l.lit-index l.lits)) (g.W.Write.contents l.writer) l.block
