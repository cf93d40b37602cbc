use Rattle.cuts_log.proofs.Saying.{says-more}
use Rattle.cuts_log.proofs.spelling.put_signed.Goals as goal

pub returns-then-negative : goal.returns-then-negative
returns-then-negative g c =
    rw c.if-negative.true (says-more _ _ _ _ _ c.put.ensures c.put_number.ensures)
