-- One part after another.
use Rattle.explain_text.proofs.Laws.{more}
use Rattle.explain.proofs.summary.put_counts.Goals as goal

pub returns : goal.returns
returns g c =
    more c.put.ensures (more c.put_number.ensures (more c.put-2.ensures
    (more c.put_number-2.ensures (more c.put-3.ensures (more c.put_number-3.ensures
    (more c.put-4.ensures (more c.put_number-4.ensures c.put-5.ensures)))))))
