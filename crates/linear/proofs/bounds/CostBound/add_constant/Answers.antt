-- The constant beside the cost grows, and the least value as much.
use Rattle.std.proofs.Common.{rules, arith, ◌+◌, ◌≤◌, ◌^◌, ap}
use Rattle.std.specs.Int.RustNames.{unsigned_abs}
use Rattle.std.proofs.lemmas.Int.{to_z-of_z}
use mir.Syntax.{w128}
use mir.Val.{SFits}
use Rattle.linear.specs.Kept.{state_in}
use Rattle.linear.proofs.Moves.{whole_small, plus_constant_kept}
use Rattle.linear.proofs.bounds.CostBound.add_constant.Goals as goal

pub raised-self-inside-requires-2-clause-sum : goal.raised-self-inside-requires-2-clause-sum
raised-self-inside-requires-2-clause-sum c =
    let b = c.self.inside in
    let f : SFits w128 b.least = search rules in
    rw (to_z-of_z w128 b.least f)
    (whole_small (state_in b) b.least b.least_cost (c.self.invariant).least)

pub invariant_of-self : goal.invariant_of-self
invariant_of-self c =
    let b = c.self.inside in
    let w = c.args.weight in
    let f : SFits w128 w = search rules in
    let g : SFits w128 b.least = search rules in
    let h : SFits w128 b.added_constant = search rules in
    let i : SFits w128 c.raised-self-inside.result = search rules in
    let j : SFits w128 c.raised-self-inside-2.result = search rules in
    let m : b.mass + unsigned_abs w ≤ 2 ^ 120
    = omega (arith, c.requires, ap (λ s. s.mass) c.self.view_is) in
    let x = simp to_z-of_z at c.raised-self-inside.ensures.value in
    let y = simp to_z-of_z at c.raised-self-inside-2.ensures.value in
    let u = simp to_z-of_z at c.unsigned_abs.ensures.value in
    simp to_z-of_z (rw (u, x, y) record {
      least = plus_constant_kept (state_in b) b.least b.least_cost w (c.self.invariant).least m;
      stamps = (c.self.invariant).stamps;
    })
