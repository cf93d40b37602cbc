-- The verdict on all bytes of the reader says it.
use Rattle.std.proofs.Common.{[], Some}
use Rattle.lrat_check.proofs.CutsLaws.{over_cuts}
use Rattle.cuts_earlier.proofs.Judgings.{right_known, wrong_known}
use Rattle.cuts_earlier.proofs.earlier.is_right_for_zero.Goals as goal

pub returns-in_ok-finish-in-Ok-clause-right : goal.returns-in_ok-finish-in-Ok-clause-right
returns-in_ok-finish-in-Ok-clause-right g c right =
    let p = c.args.instance.now in
    let held = g.R.Read.remaining in
    let m = c.in-Ok.ensures.judges in
    let j = m.judged (Some 0) p [] c.in_ok-checker.ensures.judged in
    let verdict = c.in_ok-finish-in-Ok.ensures.verdict (Some 0) p m.bytes j in
    let over = over_cuts c.judge.new.checker (Some 0) p m.bytes (held c.args.proof.now)
    (held c.judge.new.proof) _ j m.read c.in-Ok.ensures.whole verdict in
    right_known p 0 (held c.args.proof.now) _ over (c.is_yes.ensures.yes right)

pub returns-in_ok-finish-in-Ok-clause-wrong : goal.returns-in_ok-finish-in-Ok-clause-wrong
returns-in_ok-finish-in-Ok-clause-wrong g c wrong =
    let p = c.args.instance.now in
    let held = g.R.Read.remaining in
    let m = c.in-Ok.ensures.judges in
    let j = m.judged (Some 0) p [] c.in_ok-checker.ensures.judged in
    let verdict = c.in_ok-finish-in-Ok.ensures.verdict (Some 0) p m.bytes j in
    let over = over_cuts c.judge.new.checker (Some 0) p m.bytes (held c.args.proof.now)
    (held c.judge.new.proof) _ j m.read c.in-Ok.ensures.whole verdict in
    wrong_known p 0 (held c.args.proof.now) _ over (c.is_yes.ensures.no wrong)
