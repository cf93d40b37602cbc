-- Whoever puts what is left of the line has put the whole.
use Rattle.std.proofs.Common.{drop}
use Rattle.explain_text.specs.Showing.{shown_behind, shown_text}
use Rattle.explain_text.proofs.Sheets.{Leads}
use Rattle.explain_text.proofs.showing.put_shown.Given as goal

abbrev pub invariant-loop-place : goal.invariant-loop-place
invariant-loop-place g l =
    Leads (g.W.Write.contents l.initial.writer) l.initial.sheet (shown_text l.line)
    (shown_behind l.left (drop l.place l.line)) (g.W.Write.contents l.writer) l.sheet
