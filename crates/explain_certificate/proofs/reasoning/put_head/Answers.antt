-- One part after another.
use Rattle.explain_text.proofs.Laws.{more}
use Rattle.explain_certificate.proofs.reasoning.put_head.Goals as goal

pub returns : goal.returns
returns g c = (
  _,
  more c.put-2.ensures (more c.put_worth.ensures.1 (more c.put-3.ensures
      (more c.put_times.ensures c.put-4.ensures))),
)
