use Rattle.cuts_log.proofs.Keeping.{same_on}
use Rattle.cuts_log.proofs.log.CutsLogSink.append.Goals as goal

pub returns-clause-follows : goal.returns-clause-follows
returns-clause-follows g c = λ first h. same_on first _ _ h c.take_line.ensures.same
