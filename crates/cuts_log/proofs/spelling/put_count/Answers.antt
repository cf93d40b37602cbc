use Rattle.cuts_log.proofs.Saying.{says-more, says_as}
use Rattle.cuts_log.proofs.Spelled.{count_text}
use Rattle.cuts_log.proofs.spelling.put_count.Goals as goal

pub returns : goal.returns
returns g c =
    says_as _ _ _ _ (count_text c.args.outputs c.args.inputs.now)
    (says-more _ _ _ _ _ (says-more _ _ _ _ _ (says-more _ _ _ _ _ c.put.ensures
    c.put_number.ensures) c.put_lits.ensures) c.put-2.ensures)
