use Rattle.std.proofs.Common.{not, map, ap, sym, ◌∙◌}
use Rattle.std.specs.Bool.{then_some}
use Rattle.lrat_live.specs.Listed.{listed_at}
use Rattle.lrat_machine.specs.declared.verdicts.Cause.TheVariants.{HintAfterConflict}
use Rattle.lrat_machine.specs.Steps.{walked_as}
use Rattle.lrat_machine.proofs.Effects.{listed_within}
use Rattle.lrat_machine.proofs.Groups.{group_end, group_end_silent}
use Rattle.lrat_machine.proofs.rat.group_fault.Goals as goal

pub has_true-requires : goal.has_true-requires
has_true-requires c =
    listed_within c.args.assumed.now.variables c.args.live.now c.args.candidate c.in-Some.clause.now
    c.requires (sym c.in-Some.ensures)

pub assume_others-requires : goal.assume_others-requires
assume_others-requires c =
    listed_within c.args.assumed.now.variables c.args.live.now c.args.candidate c.in-Some.clause.now
    c.requires (sym c.in-Some.ensures)

pub returns-then-has_true-clause-fault : goal.returns-then-has_true-clause-fault
returns-then-has_true-clause-fault c =
    c.then_some.ensures ∙ ap (λ b. then_some (not b) HintAfterConflict) c.is_empty.ensures
    ∙ sym (group_end_silent (listed_at c.args.live.now) c.args.pivot c.negation-left_out.result
    c.args.assumed.now.literals c.args.candidate c.args.hints.now c.in-Some.clause.now
    c.negation-left_out.ensures (sym c.in-Some.ensures) (sym c.if-has_true.ensures))

pub returns-clause-fault : goal.returns-clause-fault
returns-clause-fault c =
    let T = c.walk.new.assumed.literals in
    c.fault.ensures T
    ∙ sym (group_end (listed_at c.args.live.now) c.args.pivot c.negation-left_out.result
    c.args.assumed.now.literals c.assume_others.new.assumed.literals c.args.candidate
    (map (λ h. h.1) c.args.hints.now) c.in-Some.clause.now
    (walked_as c.in_ok-walked.walked T) c.negation-left_out.ensures (sym c.in-Some.ensures)
    (sym c.if-has_true.ensures) c.in_ok-assume_others.ensures.negated c.in_ok-walked.ensures.walked)
