use Rattle.std.proofs.Common.{◌∙◌, ap, not, rules}
use Rattle.cuts_log.proofs.Claims.{form_taken}
use Rattle.cuts_log.proofs.standing.Standing.form.Goals as goal

pub returns-clause-taken : goal.returns-clause-taken
returns-clause-taken c = λ none cost.
    form_taken c.args.self.now c.args.scale c.args.facts.now c.form.new.self c.in_ok-fault.fault
    c.if-self.false (c.can_say.ensures.scale (search rules)) (c.can_say.ensures.facts (search
    rules))
    c.in_ok-fault.ensures (c.is_none.ensures ∙ ap not none) cost
