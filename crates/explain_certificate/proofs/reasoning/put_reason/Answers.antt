-- The fact, and what it says.
use Rattle.explain_certificate.proofs.Facts.{adds_on}
use Rattle.explain_text.proofs.Laws.{more}
use Rattle.explain_certificate.proofs.reasoning.put_reason.Goals as goal

pub returns : goal.returns
returns g c =
    let said = adds_on c.put_saying.ensures c.put_meanings.ensures in (
      record { is_group = c.is_group.result; details = said.0 },
      more c.put_fact.ensures said.1,
    )
