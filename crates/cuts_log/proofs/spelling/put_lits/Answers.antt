use Rattle.std.proofs.Common.{rules}
use Rattle.cnf.specs.Literal.{Literal}
use Rattle.lrat_log.specs.Texts.{number_text}
use Rattle.cuts_log.proofs.Saying.{says_item}
use Rattle.cuts_log.proofs.spelling.put_lits.Goals as goal

pub loop-lit-preserved : goal.loop-lit-preserved
loop-lit-preserved g c =
    says_item (λ (l : Literal). number_text l.negated l.variable) _ _ _ c.args.lits.now
    c.loop-lit.lit-index c.lit-item.result
    (search rules) c.lit-item.is c.loop-lit.invariant c.put_lit.ensures
