-- The numbers before the index were put.
use Rattle.std.proofs.Common.{take}
use Rattle.cuts_log.specs.Facts.{numbers_text}
use Rattle.cuts_log.specs.Outs.{Says}
use Rattle.cuts_log.proofs.spelling.put_numbers.Given as goal

abbrev pub invariant-loop-number : goal.invariant-loop-number
invariant-loop-number g l =
    Says l.initial.out (numbers_text (take l.number-index l.numbers)) l.out
