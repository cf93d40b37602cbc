-- What was put is what is written.
use Rattle.std.proofs.Common.{refl}
use Rattle.std.proofs.lemmas.Result.{on_ok_weaker, on_err_weaker}
use Rattle.explain_text.proofs.Laws.{cut_off, finished, more}
use Rattle.explain_certificate.proofs.reasoning.write_reasons.Goals as goal

pub returns-clause-ok : goal.returns-clause-ok
returns-clause-ok g c =
    on_ok_weaker c.finish.result
    (λ h. (
      _,
      record {
        head = c.put_head.ensures.0;
        details = c.put_reasons.ensures.details;
        each = c.put_reasons.ensures.each;
        rest = c.put_rest.ensures.0;
        is = refl;
      },
      finished _ c.new-sheet.ensures.empty c.new-sheet.ensures.whole
          (more c.put_head.ensures.1 (more c.put_reasons.ensures.shown c.put_rest.ensures.1)) h,
    ))
    c.finish.ensures.ok

pub returns-clause-fault : goal.returns-clause-fault
returns-clause-fault g c =
    on_err_weaker c.finish.result
    (λ h. (
      _,
      record {
        head = c.put_head.ensures.0;
        details = c.put_reasons.ensures.details;
        each = c.put_reasons.ensures.each;
        rest = c.put_rest.ensures.0;
        is = refl;
      },
      cut_off c.new-sheet.ensures.empty c.new-sheet.ensures.whole
          (more c.put_head.ensures.1 (more c.put_reasons.ensures.shown c.put_rest.ensures.1)) h,
    ))
    c.finish.ensures.fault
