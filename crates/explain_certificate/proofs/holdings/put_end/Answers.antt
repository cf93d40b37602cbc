-- What the branch puts.
use Rattle.explain_certificate.proofs.holdings.put_end.Goals as goal

pub returns-then-has_ended : goal.returns-then-has_ended
returns-then-has_ended g c = rw (c.if-has_ended.true) c.put.ensures

pub returns-else-has_ended : goal.returns-else-has_ended
returns-else-has_ended g c = rw (c.if-has_ended.false) c.put-else-has_ended.ensures
