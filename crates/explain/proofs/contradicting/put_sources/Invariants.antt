-- Whoever puts the lines that are left has put all.
use Rattle.std.proofs.Common.{drop}
use Rattle.explain.specs.Contradicting.{sources_text}
use Rattle.explain_text.proofs.Laws.{Leads}
use Rattle.explain.proofs.contradicting.put_sources.Given as goal

abbrev pub invariant-loop-clause_line : goal.invariant-loop-clause_line
invariant-loop-clause_line g l =
    Leads (g.W.Write.contents l.initial.writer) l.initial.sheet (sources_text l.hard)
    (sources_text (drop l.clause_line-index l.hard)) (g.W.Write.contents l.writer) l.sheet
