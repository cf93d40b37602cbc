use Rattle.lrat_check.proofs.Judging.{form_verdict}
use Rattle.lrat_check.proofs.checking.read_texts.Goals as goal

pub returns-in-Err-Form : goal.returns-in-Err-Form
returns-in-Err-Form c =
    let f = c.in-Err-Form in (
      λ e. cc,
      λ said. rw f.line-is (form_verdict c.args.text.now c.args.answer.now c.in-Ok.instance
          c.in-Ok.ensures.instance f.line (rw f.field-0-is at f.ensures) said),
    )
