-- The verdict after the last line.
use Rattle.std.proofs.Common.{None, refl, ◌∙◌, subst}
use Rattle.lrat_check.specs.Pieces.{Judges, ReadingState}
use Rattle.lrat_check.proofs.PieceLaws.{ends_empty, ends_open, ends_fault}
use Rattle.lrat_check.proofs.pieces.judge_rest.Goals as goal

pub returns-then-is_empty-clause-verdict : goal.returns-then-is_empty-clause-verdict
returns-then-is_empty-clause-verdict c = λ formula bytes h.
    let r : ReadingState =
    record { machine = c.args.machine.now; rest = c.args.rest.now; refused = None } in
    c.verdict.ensures
    ∙ ends_empty r refl (c.is_empty.ensures.empty c.if-is_empty.true) formula bytes h

pub returns-in-Some-clause-verdict : goal.returns-in-Some-clause-verdict
returns-in-Some-clause-verdict c = λ formula bytes h.
    let r : ReadingState =
    record { machine = c.args.machine.now; rest = c.args.rest.now; refused = None } in
    let judges = rw c.bytes.ensures at c.in_ok-refused.ensures.judges in
    ends_fault r refl (c.is_empty.ensures.some c.if-is_empty.false) formula bytes h
    c.judge_line.new.machine c.in-Some.refused
    (subst (λ f. Judges r.machine r.rest c.judge_line.new.machine f) c.in-Some.is judges)

pub returns-in-None-clause-verdict : goal.returns-in-None-clause-verdict
returns-in-None-clause-verdict c = λ formula bytes h.
    let r : ReadingState =
    record { machine = c.args.machine.now; rest = c.args.rest.now; refused = None } in
    let judges = rw c.bytes.ensures at c.in_ok-refused.ensures.judges in
    c.verdict-in-None.ensures
    ∙ ends_open r refl (c.is_empty.ensures.some c.if-is_empty.false) formula bytes h
    c.judge_line.new.machine
    (subst (λ f. Judges r.machine r.rest c.judge_line.new.machine f) c.in-None.is judges)
