-- One part after another.
use Rattle.explain_text.proofs.Laws.{more}
use Rattle.explain.proofs.names.put_line.Goals as goal

pub returns : goal.returns
returns g c =
    more c.put.ensures (more c.put-2.ensures (more c.put_shown.ensures c.put_words.ensures))
