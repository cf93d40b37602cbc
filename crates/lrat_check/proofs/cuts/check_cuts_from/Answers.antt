-- The texts are those that were read.
use Rattle.lrat_check.proofs.cuts.check_cuts_from.Goals as goal

pub returns-clause-verdict : goal.returns-clause-verdict
returns-clause-verdict g c =
    c.check_cuts_texts-verdict.ensures.verdict c.args.text.now c.args.answer.now
    c.in_ok-texts.ensures

pub returns-clause-sound : goal.returns-clause-sound
returns-clause-sound g c =
    c.check_cuts_texts-verdict.ensures.sound c.args.text.now c.args.answer.now c.in_ok-texts.ensures
