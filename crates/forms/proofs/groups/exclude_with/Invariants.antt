-- The pairs so far are excluded.
use Rattle.std.proofs.Common.{◌≡◌, ◌++◌, List, drop}
use Rattle.cnf.specs.Literal.{Literal}
use Rattle.forms.specs.Forms.{are_excluded, pairs_with}
use Rattle.forms.proofs.groups.exclude_with.Given as goal

abbrev pub invariant-loop-first : goal.invariant-loop-first
invariant-loop-first g l =
    (more : List (Literal × Literal))
    → are_excluded (g.T.ClauseTable.at l.table) (pairs_with l.lit l.before ++ more) l.ids
    ≡ are_excluded (g.T.ClauseTable.at l.table)
    (pairs_with l.lit (drop l.first-index l.before) ++ more) l.left
