-- One part after another.
use Rattle.explain_text.proofs.Laws.{more}
use Rattle.explain_certificate.proofs.reasoning.put_saying.Goals as goal

pub returns-in-Source : goal.returns-in-Source
returns-in-Source g c = (_, more c.put.ensures c.put_place.ensures.1)

pub returns-in-AtLeast : goal.returns-in-AtLeast
returns-in-AtLeast g c =
    (_, more c.put-in-AtLeast.ensures (more c.put_number.ensures c.put-in-AtLeast-2.ensures))
