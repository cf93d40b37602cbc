-- One more.
use Rattle.explain_certificate.proofs.Facts.{adds_on}
use Rattle.explain_certificate.proofs.reasoning.put_meanings.Goals as goal

pub loop-meaning-preserved : goal.loop-meaning-preserved
loop-meaning-preserved g c = adds_on c.loop-meaning.invariant c.put_meaning.ensures
