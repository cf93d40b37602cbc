-- The hints before the index were put.
use Rattle.std.proofs.Common.{◌+◌, ◌-◌, length, take}
use Rattle.text.specs.Writing.{PassesOn}
use Rattle.lrat_log.specs.Texts.{hints_text}
use Rattle.lrat_log.proofs.spelling.put_hints.Given as goal

abbrev pub invariant-loop-narrow : goal.invariant-loop-narrow
invariant-loop-narrow g l =
    PassesOn (g.W.Write.contents l.fn.writer) l.fn.block
    (hints_text l.base (take l.narrow-index l.hints)) (g.W.Write.contents l.writer) l.block

abbrev pub invariant-loop-wide : goal.invariant-loop-wide
invariant-loop-wide g l =
    PassesOn (g.W.Write.contents l.fn.writer) l.fn.block
    (hints_text l.base (take (length l.hints - length l.wide-items + l.wide-index) l.hints))
    (g.W.Write.contents l.writer) l.block
