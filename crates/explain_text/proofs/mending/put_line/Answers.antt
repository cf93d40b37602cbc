-- One part after another.
use Rattle.explain_text.proofs.Sheets.{more}
use Rattle.explain_text.proofs.mending.put_line.Goals as goal

pub returns : goal.returns
returns g c = more c.put.ensures (more c.put_cut.ensures c.put-2.ensures)
