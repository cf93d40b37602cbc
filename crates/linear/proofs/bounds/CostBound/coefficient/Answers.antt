-- What stands at the variable.
use Rattle.std.proofs.Common.{rules, arith, w64, ◌≡◌, pos, ◌+ℤ◌, ap, ◌∙◌}
use Rattle.std.specs.Prelude.{◌*ℤ◌}
use Rattle.std.proofs.lemmas.Int.{to_z-of_z}
use mir.Syntax.{w128}
use mir.Val.{SFits}
use Rattle.linear.specs.Terms.{added_of}
use Rattle.linear.proofs.Places.{StandsAt, cost_here, kept_small, added_here}
use Rattle.linear.proofs.bounds.CostBound.coefficient.Goals as goal

pub coefficient-requires : goal.coefficient-requires
coefficient-requires c =
    let b = c.self.inside in
    let old = c.index-term.result.now in
    let f : SFits w128 c.added_at-added.result = search rules in
    let k : SFits w64 old.cost = search rules in
    let at : StandsAt b.terms.items c.args.variable old =
    record { within = omega arith; here = c.index-term.ensures } in
    rw (
      to_z-of_z w64 old.cost k,
      to_z-of_z w128 c.added_at-added.result f,
      c.added_at-added.ensures,
    )
    (kept_small b c.args.variable old c.self.invariant at)

pub returns : goal.returns
returns c =
    let b = c.self.inside in
    let old = c.index-term.result.now in
    let ts = b.terms.items in
    let f : SFits w128 c.added_at-added.result = search rules in
    let k : SFits w64 old.cost = search rules in
    let g : SFits w128 c.coefficient.result = search rules in
    let at : StandsAt ts c.args.variable old =
    record { within = omega arith; here = c.index-term.ensures } in
    let e = simp to_z-of_z at c.coefficient.ensures.value in
    let sum : c.coefficient.result ≡ (pos b.scale *ℤ old.cost) +ℤ added_of b.present old =
    e ∙ ap (λ x. (pos b.scale *ℤ old.cost) +ℤ x) c.added_at-added.ensures in
    rw (to_z-of_z w128 c.coefficient.result g, ← c.self.view_is)
    (rw (cost_here ts c.args.variable old at, added_here b.present ts c.args.variable old at) sum)
