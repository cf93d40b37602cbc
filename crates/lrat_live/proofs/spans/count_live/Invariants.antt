use Rattle.std.proofs.Common.{ℕ, List, ◌++◌, take}
use Rattle.cnf.specs.Literal.{Literal}
use Rattle.lrat_live.specs.Counts.{AreCounts}
use Rattle.lrat_live.specs.Near.{spanned}
use Rattle.lrat_live.specs.Pages.{count_in}
use Rattle.lrat_live.proofs.spans.count_live.Given as goal

abbrev pub invariant-loop-span : goal.invariant-loop-span
invariant-loop-span l = (es : List (ℕ × List Literal)) (n : ℕ) → AreCounts (count_in l.fn.counts) es
    → AreCounts (count_in l.counts) (es ++ spanned l.lits n (take l.span-index l.spans))
