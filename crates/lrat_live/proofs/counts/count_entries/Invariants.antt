use Rattle.std.proofs.Common.{ℕ, List, ◌++◌, take}
use Rattle.cnf.specs.Literal.{Literal}
use Rattle.lrat_live.specs.Counts.{AreCounts}
use Rattle.lrat_live.specs.Table.{entry_spans, clauses_in}
use Rattle.lrat_live.specs.Pages.{count_in}
use Rattle.lrat_live.proofs.counts.count_entries.Given as goal

abbrev pub invariant-loop-entry : goal.invariant-loop-entry
invariant-loop-entry l = (es : List (ℕ × List Literal)) → AreCounts (count_in l.fn.counts) es
    → AreCounts (count_in l.counts)
    (es ++ clauses_in l.lits (entry_spans (take l.entry-index l.entries)))
