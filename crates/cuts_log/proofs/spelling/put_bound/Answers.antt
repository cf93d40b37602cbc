use Rattle.cuts_log.proofs.Saying.{says-more, says_as}
use Rattle.cuts_log.proofs.Spelled.{bound_text}
use Rattle.cuts_log.proofs.spelling.put_bound.Goals as goal

pub returns : goal.returns
returns g c =
    says_as _ _ _ _ (bound_text c.args.lower)
    (says-more _ _ _ _ _ (says-more _ _ _ _ _ c.put.ensures c.put_number.ensures) c.put-2.ensures)
