-- One part after another.
use Rattle.explain_text.proofs.Laws.{more}
use Rattle.explain_certificate.proofs.reasoning.put_meaning.Goals as goal

pub returns-in-GivenUp : goal.returns-in-GivenUp
returns-in-GivenUp g c = (_, more c.put.ensures c.put_source_at.ensures)

pub returns-in-Reached : goal.returns-in-Reached
returns-in-Reached g c = (
  _,
  more c.put-in-Reached.ensures (more c.put_number.ensures
      (more c.put-in-Reached-2.ensures (more c.put_number-in-Reached.ensures
      c.put-in-Reached-3.ensures))),
)
