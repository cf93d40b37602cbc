use Rattle.std.proofs.Common.{◌∙◌, ap, not, rules}
use Rattle.cuts_log.proofs.Claims.{group_taken}
use Rattle.cuts_log.proofs.standing.Standing.group.Goals as goal

pub returns-clause-taken : goal.returns-clause-taken
returns-clause-taken c = λ none cost.
    group_taken c.args.self.now c.args.inputs.now c.args.ids.now c.group.new.self
    c.in_ok-fault.fault c.if-self.false c.limits.ensures (c.are_ids.ensures (search rules))
    c.in_ok-fault.ensures (c.is_none.ensures ∙ ap not none) cost
