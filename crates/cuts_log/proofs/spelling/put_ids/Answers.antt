use Rattle.std.proofs.Common.{rules}
use Rattle.std.proofs.Common.{false}
use Rattle.lrat_log.specs.declared.lines.Hint.{Hint}
use Rattle.lrat_log.specs.Log.{id_of, name_of}
use Rattle.lrat_log.specs.Texts.{number_text}
use Rattle.cuts_log.proofs.Saying.{says_item}
use Rattle.cuts_log.proofs.spelling.put_ids.Goals as goal

pub loop-hint-preserved : goal.loop-hint-preserved
loop-hint-preserved g c =
    says_item (λ (h : Hint). number_text false (id_of c.args.base (name_of h))) _ _ _
    c.args.hints.now c.loop-hint.hint-index c.hint-item.result
    (search rules) c.hint-item.is c.loop-hint.invariant c.put_id.ensures
