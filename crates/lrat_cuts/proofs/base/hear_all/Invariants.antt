-- The clauses that are left come to what all of them do.
use Rattle.std.proofs.Common.{◌≡◌}
use Rattle.lrat_cuts.specs.Machine.{heard_all}
use Rattle.lrat_cuts.proofs.base.hear_all.Given as goal

abbrev pub invariant-loop-clause : goal.invariant-loop-clause
invariant-loop-clause l = heard_all l.clause-iterator l.forms ≡ heard_all l.fn.clauses l.fn.forms
