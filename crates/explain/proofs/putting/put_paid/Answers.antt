-- One part after another.
use Rattle.explain_text.proofs.Laws.{more}
use Rattle.explain.proofs.putting.put_paid.Goals as goal

pub returns : goal.returns
returns g c =
    more c.put.ensures (more c.put_number.ensures (more c.put-2.ensures
    (more c.put_number-2.ensures (more c.put-3.ensures c.put_source_at.ensures))))
