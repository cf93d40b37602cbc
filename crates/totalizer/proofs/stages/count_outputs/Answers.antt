use Rattle.std.proofs.Common.{◌≡◌, ◌+◌, ap, arith, length}
use Rattle.totalizer.specs.Stages.{stage, outputs_of}
use Rattle.totalizer.specs.Laid.{tree_at}
use Rattle.totalizer.proofs.Counting.{outputs_grown, outputs_kept}
use Rattle.totalizer.proofs.stages.count_outputs.Goals as goal

pub returns-then-inputs-at_least : goal.returns-then-inputs-at_least
returns-then-inputs-at_least c = λ v.
    let xs = c.args.inputs.now in
    let own = c.in-Some.own.now in
    let below = c.in-Some.field-0-1.now in
    let more : length below + 1 ≡ length c.args.outputs.now = c.in-Some.ensures.cases.1 in
    let kept = outputs_kept c.args.at_least v xs own below (omega arith) (omega arith) in
    let same =
    ap (λ os. length (outputs_of (stage c.args.at_least v (tree_at xs os)).tree))
    c.in-Some.ensures.cases.0 in
    omega arith

pub returns-else-inputs-at_least : goal.returns-else-inputs-at_least
returns-else-inputs-at_least c = λ v.
    let xs = c.args.inputs.now in
    let own = c.in-Some.own.now in
    let below = c.in-Some.field-0-1.now in
    let more : length below + 1 ≡ length c.args.outputs.now = c.in-Some.ensures.cases.1 in
    let grown = outputs_grown c.args.at_least v xs own below (omega arith) (omega arith) in
    let same =
    ap (λ os. length (outputs_of (stage c.args.at_least v (tree_at xs os)).tree))
    c.in-Some.ensures.cases.0 in
    omega arith
