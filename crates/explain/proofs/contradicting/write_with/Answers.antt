-- What was put is what is written.
use Rattle.explain_text.proofs.Laws.{more, written}
use Rattle.explain.proofs.contradicting.write_with.Goals as goal

pub returns : goal.returns
returns g c =
    written c.finish.result _ c.new-sheet.ensures.empty c.new-sheet.ensures.whole
    (more c.put.ensures c.put-2.ensures) c.finish.ensures.ok c.finish.ensures.fault
