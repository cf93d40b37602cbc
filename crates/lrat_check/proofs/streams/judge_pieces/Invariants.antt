-- The checker has judged the bytes that were read, the last piece of which was wanted.
use Rattle.std.proofs.Common.{◌-◌, ◌^◌}
use Rattle.lrat_check.specs.Pieces.{JudgesGiven}
use Rattle.lrat_check.proofs.streams.judge_pieces.Given as goal

abbrev pub invariant-pieces : goal.invariant-pieces
invariant-pieces g l =
    JudgesGiven l.fn.checker l.checker (g.R.Read.remaining l.fn.proof) (g.R.Read.remaining l.proof)

abbrev pub decreases-pieces : goal.decreases-pieces
decreases-pieces g l = 2 ^ 64 - (l.checker).fed
