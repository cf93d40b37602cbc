use Rattle.std.proofs.Common.{rules, false}
use Rattle.forms.specs.declared.types.NamedFact.{NamedFact}
use Rattle.cuts_log.specs.Facts.{fact_text, spelled}
use Rattle.cuts_log.proofs.Saying.{says_at}
use Rattle.cuts_log.proofs.spelling.put_facts.Goals as goal

pub loop-fact-preserved : goal.loop-fact-preserved
loop-fact-preserved g c =
    says_at (λ (f : NamedFact). fact_text (spelled f)) _ _ _ c.args.facts.now c.loop-fact.fact-index
    (record { weight = 0; is_numbered = false; number = 0 }) (search rules) c.loop-fact.invariant
    c.put_fact.ensures
