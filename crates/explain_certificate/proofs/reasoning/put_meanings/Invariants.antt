-- Some text was put.
use Rattle.explain_certificate.specs.Reasons.{Adds}
use Rattle.explain_certificate.proofs.reasoning.put_meanings.Given as goal

abbrev pub invariant-loop-meaning : goal.invariant-loop-meaning
invariant-loop-meaning g l =
    Adds (g.W.Write.contents l.initial.writer) l.initial.sheet
    (g.W.Write.contents l.writer) l.sheet
