-- The clauses that are left come to what all of them do.
use Rattle.std.proofs.Common.{◌≡◌}
use Rattle.lrat_cuts.specs.Cuts.{put_all}
use Rattle.lrat_cuts.proofs.base.CutsBase.put_all.Given as goal

abbrev pub invariant-loop-clause : goal.invariant-loop-clause
invariant-loop-clause l = put_all l.clause-iterator l.self ≡ put_all l.fn.clauses l.fn.self
