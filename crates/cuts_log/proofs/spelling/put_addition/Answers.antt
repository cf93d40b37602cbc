use Rattle.cuts_log.proofs.Saying.{says-more, says_as}
use Rattle.cuts_log.proofs.Spelled.{addition_text}
use Rattle.cuts_log.proofs.spelling.put_addition.Goals as goal

pub returns : goal.returns
returns g c =
    says_as _ _ _ _ (addition_text c.args.base c.args.id c.args.lits.now c.args.hints.now)
    (says-more _ _ _ _ _ (says-more _ _ _ _ _ (says-more _ _ _ _ _ (says-more _ _ _ _ _
    c.put_number.ensures c.put_lits.ensures) c.put.ensures) c.put_hints.ensures) c.put-2.ensures)
