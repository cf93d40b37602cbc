-- What was read, and what its lines came to.
use Rattle.lrat_plain.specs.Steps.{IsSteady}
use Rattle.lrat_plain.proofs.Running.{HasRead}
use Rattle.lrat_plain.proofs.streams.Run.take_all.Given as goal

abbrev pub invariant-loop : goal.invariant-loop
invariant-loop g l = record {
  read : HasRead l.fn.self l.self (g.R.Read.remaining l.fn.proof) (g.R.Read.remaining l.proof)
      (g.F.Write.contents l.fn.formula) (g.F.Write.contents l.formula)
      (g.C.Write.contents l.fn.certificate) (g.C.Write.contents l.certificate);
  steady : IsSteady (l.self).steps;
}
