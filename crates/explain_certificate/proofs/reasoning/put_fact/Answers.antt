-- One part after another.
use Rattle.std.proofs.Common.{sym}
use Rattle.explain_text.proofs.Laws.{more}
use Rattle.explain_certificate.proofs.reasoning.put_fact.Goals as goal

pub returns : goal.returns
returns g c =
    rw (sym c.weight.ensures.weight, sym c.is_numbered.ensures, sym c.number.ensures.number)
    (more c.put.ensures (more c.put_kind.ensures (more c.put_number.ensures
    c.put_times.ensures)))
