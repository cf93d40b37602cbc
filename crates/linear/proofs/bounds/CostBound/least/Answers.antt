use Rattle.std.proofs.Common.{rules, subst}
use Rattle.std.proofs.lemmas.Int.{to_z-of_z}
use mir.Syntax.{w128}
use mir.Val.{SFits}
use Rattle.linear.specs.Costs.{HasOneWidth}
use Rattle.linear.specs.Bounds.{BoundState}
use Rattle.linear.specs.Kept.{state_in}
use Rattle.linear.proofs.Moves.{whole_small}
use Rattle.linear.proofs.bounds.CostBound.least.Goals as goal

pub returns-clause-small : goal.returns-clause-small
returns-clause-small c =
    let b = c.self.inside in
    let f : SFits w128 b.least = search rules in
    let e = to_z-of_z w128 b.least f in
    rw e (whole_small (state_in b) b.least b.least_cost (c.self.invariant).least)

pub returns-clause-width : goal.returns-clause-width
returns-clause-width c =
    subst (λ (s : BoundState). HasOneWidth s.form) c.self.view_is
    (((c.self.invariant).least).bounded).width
