use Rattle.lrat_plain.proofs.PlainLaws.{plain_accepted, plain_correct, plain_refuted}
use Rattle.lrat_plain.proofs.law.plain_lines_are_correct.Goals as goal

pub returns : goal.returns
returns c = record { steps = plain_correct; accepted = plain_accepted; refuted = plain_refuted }
