use Rattle.std.proofs.Common.{map}
use Rattle.cuts_log.specs.Facts.{spelled}
use Rattle.cuts_log.proofs.Saying.{says-more, says_as}
use Rattle.cuts_log.proofs.Spelled.{facts_spelled, form_text}
use Rattle.cuts_log.proofs.spelling.put_form.Goals as goal

pub returns : goal.returns
returns g c =
    let facts = says_as _ _ _ _ (facts_spelled c.args.facts.now) c.put_facts.ensures in
    says_as _ _ _ _ (form_text c.args.scale (map spelled c.args.facts.now))
    (says-more _ _ _ _ _ (says-more _ _ _ _ _ (says-more _ _ _ _ _ c.put.ensures
    c.put_scale.ensures) facts) c.put-2.ensures)
