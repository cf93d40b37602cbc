-- One part after another.
use Rattle.explain_text.proofs.Sheets.{more}
use Rattle.explain_text.proofs.mending.put_advice.Goals as goal

pub returns : goal.returns
returns g c =
    (_, more c.put_word.ensures (more c.put.ensures (more c.put-2.ensures c.put-3.ensures)))
