-- What was written stays written, whatever comes of the flush.
use Rattle.report_text.proofs.Answered.{delivered}
use Rattle.report_text.proofs.answering.deliver_end.Goals as goal

pub returns-clause-writes : goal.returns-clause-writes
returns-clause-writes g c =
    delivered c.write_end-written.result c.deliver.result _ _ _ _ c.write_end-written.ensures
    c.deliver.ensures.written c.deliver.ensures.kept
