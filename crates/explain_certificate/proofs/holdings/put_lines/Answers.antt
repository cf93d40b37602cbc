-- One line after another.
use Rattle.explain_text.proofs.Laws.{more}
use Rattle.explain_certificate.proofs.holdings.put_lines.Goals as goal

pub returns : goal.returns
returns g c =
    more c.put_count.ensures (more c.put_count-2.ensures (more c.put_count-3.ensures
    (more c.put_count-4.ensures (more c.put_count-5.ensures (more c.put_count-6.ensures
    (more c.put_count-7.ensures c.put_count-8.ensures))))))
