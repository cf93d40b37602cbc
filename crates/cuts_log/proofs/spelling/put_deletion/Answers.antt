use Rattle.cuts_log.proofs.Saying.{says-more, says_as}
use Rattle.cuts_log.proofs.Spelled.{deletion_text}
use Rattle.cuts_log.proofs.spelling.put_deletion.Goals as goal

pub returns : goal.returns
returns g c =
    says_as _ _ _ _ (deletion_text c.args.base c.args.last c.args.hints.now)
    (says-more _ _ _ _ _ (says-more _ _ _ _ _ (says-more _ _ _ _ _ c.put_number.ensures
    c.put.ensures) c.put_ids.ensures) c.put-2.ensures)
