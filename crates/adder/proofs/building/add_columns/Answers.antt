use Rattle.std.proofs.Common.{◌≡◌, ◌+◌, ◌-◌, ◌++◌, List, suc, arith, refl, ap}
use Rattle.std.proofs.lemmas.Result.{IfOk-from_err}
use Rattle.cnf.specs.Literal.{Literal}
use Rattle.adder.proofs.Whole.{filled_is, column_room, builds_column}
use Rattle.adder.proofs.building.add_columns.Goals as goal

pub add_column-requires : goal.add_column-requires
add_column-requires c =
    let more : c.args.relaxations.now.digits - c.loop-j.j
    ≡ suc (c.args.relaxations.now.digits - (c.loop-j.j + 1)) = omega arith in
    let filled =
    filled_is c.args.relaxations.now.each.items c.loop-j.j c.clear.ensures.items
    c.deref.ensures.value c.in_ok-push_bit.ensures in
    rw filled (column_room _ more c.loop-j.invariant c.requires.small)

pub loop-j-preserved : goal.loop-j-preserved
loop-j-preserved c =
    let more : c.args.relaxations.now.digits - c.loop-j.j
    ≡ suc (c.args.relaxations.now.digits - (c.loop-j.j + 1)) = omega arith in
    let filled =
    filled_is c.args.relaxations.now.each.items c.loop-j.j c.clear.ensures.items
    c.deref.ensures.value c.in_ok-push_bit.ensures in
    builds_column _ more c.loop-j.invariant
    (c.push_bit.new.column.items ++ c.loop-j.adder.carries.items)
    (ap (λ (ls : List Literal). ls ++ c.loop-j.adder.carries.items) filled)
    c.in_ok-add_column.ensures.cells
    (rw c.in_ok-add_column.ensures.output at c.in_ok-push.ensures.items)
    c.in_ok-add_column.ensures.fresh c.in_ok-add_column.ensures.carries refl

pub returns-in_err-push_bit : goal.returns-in_err-push_bit
returns-in_err-push_bit c = IfOk-from_err c.from_residual.result _ c.from_residual.ensures.0

pub returns-in_err-add_column : goal.returns-in_err-add_column
returns-in_err-add_column c =
    IfOk-from_err c.from_residual-in_err-add_column.result _
    c.from_residual-in_err-add_column.ensures.0

pub returns-in_err-push : goal.returns-in_err-push
returns-in_err-push c =
    IfOk-from_err c.from_residual-in_err-push.result _ c.from_residual-in_err-push.ensures.0
