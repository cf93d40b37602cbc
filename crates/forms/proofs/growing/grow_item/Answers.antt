-- One more output.
use Rattle.std.proofs.Common.{◌-◌, subst, sym}
use Rattle.std.proofs.lemmas.Result.{IfOk-from_err}
use Rattle.forms.specs.Forms.{next_stage}
use Rattle.forms.specs.Within.{IsCount, IsStampedWithin, CanGrow}
use Rattle.forms.proofs.NextOutput.{count_grows}
use Rattle.forms.proofs.growing.grow_item.Goals as goal

pub returns-in_ok-widen-in-Count-clause-within : goal.returns-in_ok-widen-in-Count-clause-within
returns-in_ok-widen-in-Count-clause-within c = λ terms h.
    let count = c.in-Count.count in
    let v = c.args.fresh in
    let is = subst (IsStampedWithin (v - 1) terms) c.in-Count.is h in
    let can = subst CanGrow c.in-Count.is c.requires.more in
    subst (λ n. IsCount (n - 1) terms count.inputs.items c.add_stage.new.self count.multiplier)
    (sym c.in_ok-next-in-Count.ensures.fresh)
    (subst (λ t. IsCount ((next_stage v count.totalizer).fresh - 1) terms count.inputs.items t
    count.multiplier) (sym c.in_ok-next-in-Count.ensures.tree)
    (count_grows v terms count.inputs.items count.totalizer count.multiplier c.requires.from_one
    can.0 is))

pub returns-in_err-next-in-Count-clause-within : goal.returns-in_err-next-in-Count-clause-within
returns-in_err-next-in-Count-clause-within c =
    IfOk-from_err c.from_residual.result _ c.from_residual.ensures.0

pub returns-in_err-next-in-Count-clause-stamped : goal.returns-in_err-next-in-Count-clause-stamped
returns-in_err-next-in-Count-clause-stamped c =
    IfOk-from_err c.from_residual.result _ c.from_residual.ensures.0

pub returns-in_err-next-in-Count-clause-widened : goal.returns-in_err-next-in-Count-clause-widened
returns-in_err-next-in-Count-clause-widened c =
    IfOk-from_err c.from_residual.result _ c.from_residual.ensures.0

pub returns-in_err-next-in-Count-clause-marks : goal.returns-in_err-next-in-Count-clause-marks
returns-in_err-next-in-Count-clause-marks c =
    IfOk-from_err c.from_residual.result _ c.from_residual.ensures.0

pub returns-in_err-widen-in-Count-clause-within : goal.returns-in_err-widen-in-Count-clause-within
returns-in_err-widen-in-Count-clause-within c =
    IfOk-from_err c.from_residual-in_err-widen-in-Count.result _
    c.from_residual-in_err-widen-in-Count.ensures.0

pub returns-in_err-widen-in-Count-clause-stamped : goal.returns-in_err-widen-in-Count-clause-stamped
returns-in_err-widen-in-Count-clause-stamped c =
    IfOk-from_err c.from_residual-in_err-widen-in-Count.result _
    c.from_residual-in_err-widen-in-Count.ensures.0

pub returns-in_err-widen-in-Count-clause-widened : goal.returns-in_err-widen-in-Count-clause-widened
returns-in_err-widen-in-Count-clause-widened c =
    IfOk-from_err c.from_residual-in_err-widen-in-Count.result _
    c.from_residual-in_err-widen-in-Count.ensures.0

pub returns-in_err-widen-in-Count-clause-marks : goal.returns-in_err-widen-in-Count-clause-marks
returns-in_err-widen-in-Count-clause-marks c =
    IfOk-from_err c.from_residual-in_err-widen-in-Count.result _
    c.from_residual-in_err-widen-in-Count.ensures.0
