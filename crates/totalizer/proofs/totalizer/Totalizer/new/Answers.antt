use Rattle.std.proofs.Common.{◌∙◌, ap}
use Rattle.std.proofs.lemmas.Result.{IfOk-from_err}
use Rattle.totalizer.specs.Stages.{tree_of}
use Rattle.totalizer.proofs.Laid.{tree_bare}
use Rattle.totalizer.proofs.totalizer.Totalizer.new.Goals as goal

pub returns : goal.returns
returns c =
    tree_bare c.in_ok-from_slice.field-0.items c.loop.outputs.items c.loop.invariant.1
    ∙ ap tree_of c.in_ok-from_slice.ensures.items

pub returns-in_err-reserve : goal.returns-in_err-reserve
returns-in_err-reserve c = IfOk-from_err c.from_residual.result _ c.from_residual.ensures.0

pub returns-in_err-push : goal.returns-in_err-push
returns-in_err-push c =
    IfOk-from_err c.from_residual-in_err-push.result _ c.from_residual-in_err-push.ensures.0

pub returns-in_err-from_slice : goal.returns-in_err-from_slice
returns-in_err-from_slice c =
    IfOk-from_err c.from_residual-in_err-from_slice.result _
    c.from_residual-in_err-from_slice.ensures.0
