-- One part after another.
use Rattle.explain_text.proofs.Laws.{more}
use Rattle.explain_certificate.proofs.holdings.put_count.Goals as goal

pub returns : goal.returns
returns g c = more c.put.ensures (more c.put_number.ensures c.put-2.ensures)
