-- What the branch puts.
use Rattle.explain_certificate.proofs.reasoning.put_numbered.Goals as goal

pub returns-then-is_group : goal.returns-then-is_group
returns-then-is_group g c = rw (c.if-is_group.true) c.put.ensures

pub returns-else-is_group : goal.returns-else-is_group
returns-else-is_group g c = rw (c.if-is_group.false) c.put-else-is_group.ensures
