-- One part after another.
use Rattle.explain_text.proofs.Laws.{more}
use Rattle.explain_certificate.proofs.reasoning.put_worth.Goals as goal

pub returns-in-Some : goal.returns-in-Some
returns-in-Some g c = (_, more c.put-in-Some.ensures c.put_number.ensures)
