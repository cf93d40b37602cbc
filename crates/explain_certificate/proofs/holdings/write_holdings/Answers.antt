-- What was put is what is written.
use Rattle.explain_text.proofs.Laws.{more, written}
use Rattle.explain_certificate.proofs.holdings.write_holdings.Goals as goal

pub returns : goal.returns
returns g c =
    written c.finish.result _ c.new-sheet.ensures.empty c.new-sheet.ensures.whole
    (more c.put_lines.ensures (more c.put_live.ensures c.put_proved.ensures))
    c.finish.ensures.ok c.finish.ensures.fault
