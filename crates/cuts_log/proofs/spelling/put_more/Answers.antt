use Rattle.cuts_log.proofs.Saying.{says-more, says_as}
use Rattle.cuts_log.proofs.Spelled.{more_text}
use Rattle.cuts_log.proofs.spelling.put_more.Goals as goal

pub returns : goal.returns
returns g c =
    says_as _ _ _ _ (more_text c.args.number)
    (says-more _ _ _ _ _ (says-more _ _ _ _ _ c.put.ensures c.put_number.ensures) c.put-2.ensures)
