-- The pairs so far are excluded.
use Rattle.std.proofs.Common.{◌≡◌, take, drop}
use Rattle.forms.specs.Forms.{are_excluded, pairs_of, pairs_after}
use Rattle.forms.proofs.groups.are_excluded.Given as goal

abbrev pub invariant-loop-before : goal.invariant-loop-before
invariant-loop-before g l =
    are_excluded (g.T.ClauseTable.at l.table) (pairs_of l.lits) l.ids
    ≡ are_excluded (g.T.ClauseTable.at l.table)
    (pairs_after (take l.before l.lits) (drop l.before l.lits)) l.left
