use Rattle.std.proofs.Common.{rules, ◌≡◌, length, arith, to_z, of_z}
use Rattle.std.proofs.lemmas.Int.{ints}
use mir.Syntax.{w128}
use mir.Val.{SFits}
use Rattle.forms.proofs.MassLaws.{weighed}
use Rattle.forms.proofs.citing.subtract_count.Goals as goal

pub add_literals-requires-clause-room : goal.add_literals-requires-clause-room
add_literals-requires-clause-room c =
    let m = c.minus.result in
    let fits : SFits w128 m = search rules in
    let same : to_z w128 (of_z w128 m) ≡ m = omega (arith, ints) in
    rw same (omega (
      arith,
      c.requires.room,
      weighed _ (length c.args.inputs.now) c.minus.ensures.small,
    ))

pub add_literals-requires-2-clause-room : goal.add_literals-requires-2-clause-room
add_literals-requires-2-clause-room c =
    let m = c.minus.result in
    let p = c.plus.result in
    let fits : SFits w128 m = search rules in
    let too : SFits w128 p = search rules in
    let same : to_z w128 (of_z w128 m) ≡ m = omega (arith, ints) in
    let other : to_z w128 (of_z w128 p) ≡ p = omega (arith, ints) in
    let before = rw same at c.add_literals.ensures.mass in
    rw other (omega (
      arith,
      c.requires.room,
      before,
      weighed _ (length c.args.inputs.now) c.minus.ensures.small,
      weighed _ (length c.args.outputs.now) c.plus.ensures.small,
    ))

pub returns-clause-mass : goal.returns-clause-mass
returns-clause-mass c =
    let m = c.minus.result in
    let p = c.plus.result in
    let fits : SFits w128 m = search rules in
    let too : SFits w128 p = search rules in
    let same : to_z w128 (of_z w128 m) ≡ m = omega (arith, ints) in
    let other : to_z w128 (of_z w128 p) ≡ p = omega (arith, ints) in
    let before = rw same at c.add_literals.ensures.mass in
    let after = rw other at c.add_literals-2.ensures.mass in
    omega (
      arith,
      before,
      after,
      weighed _ (length c.args.inputs.now) c.minus.ensures.small,
      weighed _ (length c.args.outputs.now) c.plus.ensures.small,
    )
