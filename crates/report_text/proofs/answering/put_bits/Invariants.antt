-- The digits before the index were put.
use Rattle.std.proofs.Common.{take}
use Rattle.text.specs.Writing.{PassesOn}
use Rattle.report_text.specs.Answering.{digits_text}
use Rattle.report_text.proofs.answering.put_bits.Given as goal

abbrev pub invariant-loop-bit : goal.invariant-loop-bit
invariant-loop-bit g l =
    PassesOn (g.O.Write.contents l.initial.out) l.initial.block
    (digits_text (take l.bit-index l.bits)) (g.O.Write.contents l.out) l.block
