-- What the branch puts.
use Rattle.explain_certificate.proofs.reasoning.put_kind.Goals as goal

pub returns-then-is_numbered : goal.returns-then-is_numbered
returns-then-is_numbered g c = rw (c.if-is_numbered.true) c.put_numbered.ensures

pub returns-else-is_numbered : goal.returns-else-is_numbered
returns-else-is_numbered g c = rw (c.if-is_numbered.false) c.put.ensures
