-- Whoever adds the facts that are left has added all.
use Rattle.std.proofs.Common.{drop}
use Rattle.explain_certificate.proofs.Facts.{LeadsFacts}
use Rattle.explain_certificate.proofs.reasoning.put_reasons.Given as goal

abbrev pub invariant-loop-reason : goal.invariant-loop-reason
invariant-loop-reason g l =
    LeadsFacts (g.W.Write.contents l.initial.writer) l.initial.sheet l.reasons
    (drop l.reason-index l.reasons) (g.W.Write.contents l.writer) l.sheet
