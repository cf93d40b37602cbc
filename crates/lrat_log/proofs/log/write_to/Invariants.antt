-- The lines before this one were put, and end where they end.
use Rattle.std.proofs.Common.{◌≡◌, []}
use Rattle.text.specs.Writing.{PassesOn}
use Rattle.lrat_log.specs.Flat.{lits_on, hints_on}
use Rattle.lrat_log.proofs.LineTexts.{last_on, put_before}
use Rattle.lrat_log.proofs.log.write_to.Given as goal

abbrev pub invariant-loop-line : goal.invariant-loop-line
invariant-loop-line g l =
    (l.last ≡ last_on l.base l.log l.line) × PassesOn (g.W.Write.contents l.fn.writer) []
    (put_before l.base l.log l.line) (g.W.Write.contents l.writer) l.block
    × ((l.ends.lits ≡ lits_on l.log l.line) × (l.ends.hints ≡ hints_on l.log l.line))
