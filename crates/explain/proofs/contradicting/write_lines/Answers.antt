-- What was put is what is written.
use Rattle.explain_text.proofs.Laws.{more, written}
use Rattle.explain.proofs.contradicting.write_lines.Goals as goal

pub returns : goal.returns
returns g c =
    written c.finish.result _ c.new-sheet.ensures.empty c.new-sheet.ensures.whole
    (more c.put.ensures (more c.put_number.ensures (more c.put-2.ensures
    (more c.put_number-2.ensures (more c.put-3.ensures c.put_sources.ensures)))))
    c.finish.ensures.ok c.finish.ensures.fault
