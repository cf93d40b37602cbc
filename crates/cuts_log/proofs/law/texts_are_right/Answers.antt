use Rattle.cuts_log.proofs.BegunTexts.{begun_judged}
use Rattle.cuts_log.proofs.LogBounds.{bounds_proved}
use Rattle.cuts_log.proofs.LogEnds.{logs_end}
use Rattle.cuts_log.proofs.LogTexts.{nothing_cheaper, texts_judged}
use Rattle.cuts_log.proofs.law.texts_are_right.Goals as goal

pub returns : goal.returns
returns c = record {
  end = logs_end;
  texts = texts_judged;
  begun = begun_judged;
  cost = nothing_cheaper;
  bounds = bounds_proved;
}
