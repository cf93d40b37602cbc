-- The line that was found is what is shown first.
use Rattle.std.proofs.Common.{subst, ◌++◌}
use Rattle.std.proofs.lemmas.Result.{on_ok_weaker, on_err_weaker}
use Rattle.std.specs.Io.KnownBytes.{Appends}
use Rattle.text.specs.Writing.{AppendsPart}
use Rattle.explain_text.specs.Mending.{shown_line}
use Rattle.explain_text.proofs.Sheets.{cut_off, finished, more}
use Rattle.explain_text.proofs.mending.write_mending.Goals as goal

pub returns-clause-ok : goal.returns-clause-ok
returns-clause-ok g c =
    on_ok_weaker c.finish.result
    (λ h. record {
      advice = c.put_advice.ensures.0;
      appended = subst
          (λ l. Appends (g.W.Write.contents c.args.writer.now)
          (g.W.Write.contents c.finish.new.writer) (shown_line l ++ c.put_advice.ensures.0))
          c.find_line-line.ensures
          (finished _ c.new-sheet.ensures.empty c.new-sheet.ensures.whole
          (more c.put_line.ensures c.put_advice.ensures.1) h);
    })
    c.finish.ensures.ok

pub returns-clause-fault : goal.returns-clause-fault
returns-clause-fault g c =
    on_err_weaker c.finish.result
    (λ h. record {
      advice = c.put_advice.ensures.0;
      part = subst
          (λ l. AppendsPart (g.W.Write.contents c.args.writer.now)
          (g.W.Write.contents c.finish.new.writer) (shown_line l ++ c.put_advice.ensures.0))
          c.find_line-line.ensures
          (cut_off c.new-sheet.ensures.empty c.new-sheet.ensures.whole
          (more c.put_line.ensures c.put_advice.ensures.1) h);
    })
    c.finish.ensures.fault
