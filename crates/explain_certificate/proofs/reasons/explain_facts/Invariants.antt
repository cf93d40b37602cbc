-- What was found, with the facts that are left, is all.
use Rattle.std.proofs.Common.{◌≡◌, ◌++◌, drop, map}
use Rattle.explain_certificate.specs.declared.reasons.Reason.{Reason}
use Rattle.explain_certificate.proofs.reasons.explain_facts.Given as goal

abbrev pub invariant-loop-fact : goal.invariant-loop-fact
invariant-loop-fact l =
    map (λ (r : Reason). r.fact) l.reasons.items ++ drop l.fact-index l.facts ≡ l.fn.facts
