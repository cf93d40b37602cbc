use Rattle.cuts_log.proofs.JudgedLogs.{logs_judged}
use Rattle.cuts_log.proofs.JudgedStart.{steps_judged}
use Rattle.cuts_log.proofs.JudgedWords.{taken_judged}
use Rattle.cuts_log.proofs.law.logs_are_right.Goals as goal

pub returns : goal.returns
returns c = record { words = taken_judged; logs = logs_judged; steps = steps_judged }
