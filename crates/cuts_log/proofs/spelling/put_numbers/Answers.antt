use Rattle.std.proofs.Common.{rules, false}
use Rattle.lrat_log.specs.Texts.{number_text}
use Rattle.cuts_log.proofs.Saying.{says_at}
use Rattle.cuts_log.proofs.spelling.put_numbers.Goals as goal

pub loop-number-preserved : goal.loop-number-preserved
loop-number-preserved g c =
    says_at (number_text false) _ _ _ c.args.numbers.now c.loop-number.number-index 0 (search rules)
    c.loop-number.invariant c.put_number.ensures
