-- The hints before the index were put.
use Rattle.std.proofs.Common.{take}
use Rattle.lrat_log.specs.Texts.{hints_text}
use Rattle.cuts_log.specs.Outs.{Says}
use Rattle.cuts_log.proofs.spelling.put_hints.Given as goal

abbrev pub invariant-loop-hint : goal.invariant-loop-hint
invariant-loop-hint g l =
    Says l.initial.out (hints_text l.base (take l.hint-index l.hints)) l.out
