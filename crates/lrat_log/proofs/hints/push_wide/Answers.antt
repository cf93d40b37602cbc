use Rattle.std.proofs.Common.{◌≤◌, ◌∙◌, arith}
use Rattle.std.proofs.lemmas.Result.{IfOk-from_err}
use Rattle.std.specs.Vec.{vec_len, vec_capacity}
use Rattle.lrat_log.proofs.Kept.{kept_more}
use Rattle.lrat_log.proofs.hints.push_wide.Goals as goal

pub returns-in_err-reserve-clause-ok : goal.returns-in_err-reserve-clause-ok
returns-in_err-reserve-clause-ok c =
    IfOk-from_err c.from_residual.result _ c.from_residual.ensures.0

pub returns-in_err-push-clause-ok : goal.returns-in_err-push-clause-ok
returns-in_err-push-clause-ok c =
    IfOk-from_err c.from_residual-in_err-push.result _ c.from_residual-in_err-push.ensures.0

pub returns-in_err-push-clause-err : goal.returns-in_err-push-clause-err
returns-in_err-push-clause-err c =
    let full : vec_capacity c.loop-hint.kept ≤ vec_len c.loop-hint.kept =
    c.in_err-push.ensures.full in
    absurd (omega (arith, full))

pub loop-hint-preserved : goal.loop-hint-preserved
loop-hint-preserved c = (
  kept_more c.reserve.new.self.items c.loop-hint.kept.items c.push.new.self.items c.args.hints.now
      c.loop-hint.hint-index c.new.result c.hint-item.result c.loop-hint.invariant.0
      c.in_ok-push.ensures.items (omega arith) (c.new.ensures ∙ c.hint-item.is),
  omega arith,
)
