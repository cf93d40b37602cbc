-- One part after another.
use Rattle.explain_text.proofs.Laws.{more}
use Rattle.explain_certificate.proofs.holdings.put_live.Goals as goal

pub returns-in-Some : goal.returns-in-Some
returns-in-Some g c =
    rw (c.in-Some.is)
    (more c.put.ensures (more c.put_number.ensures c.put-in-Some.ensures))
