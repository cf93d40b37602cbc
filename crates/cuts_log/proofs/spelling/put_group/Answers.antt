use Rattle.cuts_log.proofs.Saying.{says-more, says_as}
use Rattle.cuts_log.proofs.Spelled.{group_text}
use Rattle.cuts_log.proofs.spelling.put_group.Goals as goal

pub returns : goal.returns
returns g c =
    says_as _ _ _ _ (group_text c.args.inputs.now c.args.ids.now)
    (says-more _ _ _ _ _ (says-more _ _ _ _ _ (says-more _ _ _ _ _ (says-more _ _ _ _ _
    c.put.ensures c.put_lits.ensures) c.put-2.ensures) c.put_numbers.ensures) c.put-3.ensures)
