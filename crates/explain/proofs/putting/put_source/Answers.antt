-- One part after another.
use Rattle.std.proofs.Common.{sym}
use Rattle.explain_text.proofs.Laws.{more}
use Rattle.explain.proofs.putting.put_source.Goals as goal

pub returns : goal.returns
returns g c =
    rw (sym c.line.ensures, sym c.text.ensures, sym c.comment.ensures)
    (more c.put.ensures (more c.put_number.ensures (more c.put-2.ensures
    (more c.put_shown.ensures (more c.put-3.ensures c.put_comment.ensures)))))
