use Rattle.text.proofs.DigitCounts.{counted}
use Rattle.text.proofs.output.digit_count.Goals as goal

pub returns-clause-count : goal.returns-clause-count
returns-clause-count c =
    counted c.args.number _ _ _ _ _ _ _ _ c.requires c.reaches.ensures c.reaches-2.ensures
    c.reaches-3.ensures c.reaches-4.ensures c.reaches-5.ensures c.reaches-6.ensures
    c.reaches-7.ensures c.reaches-8.ensures
