use Rattle.cuts_log.proofs.Saying.{says-more, says_as}
use Rattle.cuts_log.proofs.Spelled.{cut_text}
use Rattle.cuts_log.proofs.spelling.put_cut.Goals as goal

pub returns : goal.returns
returns g c =
    says_as _ _ _ _ (cut_text c.args.lits.now)
    (says-more _ _ _ _ _ (says-more _ _ _ _ _ c.put.ensures c.put_lits.ensures) c.put-2.ensures)
