-- The verdict after the last line.
use Rattle.std.proofs.Common.{None, refl, ◌∙◌, subst}
use Rattle.lrat_cuts.specs.Pieces.{Judges, ReadingState}
use Rattle.lrat_cuts.proofs.PieceLaws.{ends_empty, ends_open, ends_fault}
use Rattle.lrat_cuts.proofs.pieces.judge_rest.Goals as goal

pub returns-then-is_empty-clause-verdict : goal.returns-then-is_empty-clause-verdict
returns-then-is_empty-clause-verdict c = λ cost p bytes h.
    let r : ReadingState =
    record { machine = c.args.machine.now; rest = c.args.rest.now; refused = None } in
    c.end_verdict.ensures
    ∙ ends_empty r cost p bytes h refl (c.is_empty.ensures.empty c.if-is_empty.true)

pub returns-in-Some-clause-verdict : goal.returns-in-Some-clause-verdict
returns-in-Some-clause-verdict c = λ cost p bytes h.
    let r : ReadingState =
    record { machine = c.args.machine.now; rest = c.args.rest.now; refused = None } in
    let judges = rw c.bytes.ensures at c.in_ok-cause.ensures.judges in
    ends_fault r cost p bytes h refl (c.is_empty.ensures.some c.if-is_empty.false)
    c.judge_line.new.machine (c.in-Some.cause, c.in-Some.line)
    (subst (λ f. Judges r.machine r.rest c.judge_line.new.machine f) c.in-Some.is judges)

pub returns-in-None-clause-verdict : goal.returns-in-None-clause-verdict
returns-in-None-clause-verdict c = λ cost p bytes h.
    let r : ReadingState =
    record { machine = c.args.machine.now; rest = c.args.rest.now; refused = None } in
    let judges = rw c.bytes.ensures at c.in_ok-cause.ensures.judges in
    c.end_verdict-in-None.ensures
    ∙ ends_open r cost p bytes h refl (c.is_empty.ensures.some c.if-is_empty.false)
    c.judge_line.new.machine
    (subst (λ f. Judges r.machine r.rest c.judge_line.new.machine f) c.in-None.is judges)
