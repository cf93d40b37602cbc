use Rattle.std.proofs.Common.{rules}
use Rattle.lrat_log.specs.Texts.{hint_text}
use Rattle.cuts_log.proofs.Saying.{says_item}
use Rattle.cuts_log.proofs.spelling.put_hints.Goals as goal

pub loop-hint-preserved : goal.loop-hint-preserved
loop-hint-preserved g c =
    says_item (hint_text c.args.base) _ _ _ c.args.hints.now c.loop-hint.hint-index
    c.hint-item.result
    (search rules) c.hint-item.is c.loop-hint.invariant c.put_hint.ensures
