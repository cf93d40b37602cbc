use Rattle.cuts_log.proofs.Saying.{says-more}
use Rattle.cuts_log.proofs.spelling.put_number.Goals as goal

pub returns : goal.returns
returns g c = says-more _ _ _ _ _ c.put_number.ensures c.put.ensures
