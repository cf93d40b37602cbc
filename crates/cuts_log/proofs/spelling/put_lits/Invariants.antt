-- The lits before the index were put.
use Rattle.std.proofs.Common.{take}
use Rattle.lrat_log.specs.Texts.{literals_text}
use Rattle.cuts_log.specs.Outs.{Says}
use Rattle.cuts_log.proofs.spelling.put_lits.Given as goal

abbrev pub invariant-loop-lit : goal.invariant-loop-lit
invariant-loop-lit g l =
    Says l.initial.out (literals_text (take l.lit-index l.lits)) l.out
