-- Whoever puts the lines that are left has put all.
use Rattle.std.proofs.Common.{drop}
use Rattle.std.specs.List.{flat_map}
use Rattle.explain.specs.Explanation.{broken_line}
use Rattle.explain_text.proofs.Laws.{Leads}
use Rattle.explain.proofs.putting.put_broken.Given as goal

abbrev pub invariant-loop-clause_line : goal.invariant-loop-clause_line
invariant-loop-clause_line g l =
    Leads (g.W.Write.contents l.initial.writer) l.initial.sheet (flat_map broken_line l.hard)
    (flat_map broken_line (drop l.clause_line-index l.hard)) (g.W.Write.contents l.writer) l.sheet
