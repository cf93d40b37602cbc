-- A result without bits.
use Rattle.std.proofs.Common.{refl}
use Rattle.explain.proofs.explaining.explain_report.Goals as goal

pub returns-in-Err-clause-fault : goal.returns-in-Err-clause-fault
returns-in-Err-clause-fault g c =
    rw c.in-Unsat.is (record { explanation = _; is = refl; part = c.in-Err.ensures })

pub returns-in-Err-write_piece-clause-fault : goal.returns-in-Err-write_piece-clause-fault
returns-in-Err-write_piece-clause-fault g c =
    rw c.in-Limit.is
    (record { explanation = _; is = refl; part = c.in-Err-write_piece.ensures })
