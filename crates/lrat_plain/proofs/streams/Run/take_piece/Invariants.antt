-- What is left of the piece, and what the lines before it came to.
use Rattle.std.proofs.Common.{length}
use Rattle.lrat_plain.specs.Steps.{IsSteady}
use Rattle.lrat_plain.proofs.Running.{IsTaken}
use Rattle.lrat_plain.proofs.streams.Run.take_piece.Given as goal

abbrev pub invariant-loop-end : goal.invariant-loop-end
invariant-loop-end g l = record {
  taken : IsTaken l.fn.self l.self l.piece l.left
      (g.F.Write.contents l.fn.formula) (g.F.Write.contents l.formula)
      (g.C.Write.contents l.fn.certificate) (g.C.Write.contents l.certificate);
  steady : IsSteady (l.self).steps;
}

abbrev pub decreases-loop-end : goal.decreases-loop-end
decreases-loop-end g l = length l.left
