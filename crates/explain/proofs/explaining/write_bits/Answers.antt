-- What was put is what is written.
use Rattle.explain_text.proofs.Laws.{written}
use Rattle.explain.proofs.explaining.write_bits.Goals as goal

pub returns : goal.returns
returns g c =
    written c.finish.result _ c.new-sheet.ensures.empty c.new-sheet.ensures.whole c.put_bits.ensures
    c.finish.ensures.ok c.finish.ensures.fault
