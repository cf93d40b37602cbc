-- One part after another.
use Rattle.explain_text.proofs.Laws.{more}
use Rattle.explain_certificate.proofs.reasoning.put_rest.Goals as goal

pub returns-then-listed-all : goal.returns-then-listed-all
returns-then-listed-all g c =
    (_, more c.put.ensures (more c.put_number.ensures c.put-then-listed-all.ensures))
