-- One coefficient beside the cost grows, and the least value by what that gives.
use Rattle.std.proofs.Common.{rules, arith, w64, ◌≡◌, ℤ, ◌+ℤ◌, ◌+◌, ◌≤◌, ◌^◌, ap, ◌∙◌, refl}
use Rattle.std.proofs.Common.{ℕ, ◌<◌}
use Rattle.std.specs.Int.RustNames.{unsigned_abs}
use Rattle.std.proofs.lemmas.Int.{ints, to_z-of_z}
use Rattle.std.proofs.lemmas.List.Elements.{All-set}
use mir.Syntax.{w128}
use mir.Val.{SFits}
use Rattle.linear.specs.declared.terms.Term.{Term}
use Rattle.linear.specs.Linear.{plus_at}
use Rattle.linear.specs.Terms.{added_of}
use Rattle.linear.specs.Bounds.{BoundState}
use Rattle.linear.proofs.Sums.{least_at}
use Rattle.linear.specs.Kept.{state_in}
use Rattle.linear.proofs.Moves.{whole_small}
use Rattle.linear.proofs.Places.{stands_at, kept_small, raised_small, added_put, added_put_kept}
use Rattle.linear.proofs.bounds.CostBound.add_at.Goals as goal

light : (n w : ℕ) → n + w ≤ 2 ^ 120 → w < 2 ^ 126
light n w small = omega arith

pub raised-requires-clause-sum : goal.raised-requires-clause-sum
raised-requires-clause-sum c =
    let b = c.self.inside in
    let old = c.index.result.now in
    let f : SFits w128 c.added_at-added.result = search rules in
    let at = stands_at b c.args.self.now c.args.variable old c.self.view_is c.requires.variable
    c.index.ensures in
    let h = kept_small b c.args.variable old c.self.invariant at in
    rw (to_z-of_z w128 c.added_at-added.result f, c.added_at-added.ensures) (omega (arith, h.added))

pub least_at-before-requires : goal.least_at-before-requires
least_at-before-requires c =
    let b = c.self.inside in
    let old = c.index.result.now in
    let f : SFits w128 c.added_at-added.result = search rules in
    let at = stands_at b c.args.self.now c.args.variable old c.self.view_is c.requires.variable
    c.index.ensures in
    rw (to_z-of_z w128 c.added_at-added.result f, c.added_at-added.ensures)
    (kept_small b c.args.variable old c.self.invariant at)

pub least_at-after-requires : goal.least_at-after-requires
least_at-after-requires c =
    let b = c.self.inside in
    let old = c.index.result.now in
    let w = c.args.weight in
    let f : SFits w128 c.added_at-added.result = search rules in
    let g : SFits w128 c.raised.result = search rules in
    let i : SFits w64 old.cost = search rules in
    let k : SFits w128 w = search rules in
    let at = stands_at b c.args.self.now c.args.variable old c.self.view_is c.requires.variable
    c.index.ensures in
    let m : b.mass + unsigned_abs w ≤ 2 ^ 120 =
    omega (arith, c.requires.room, ap (λ s. s.mass) c.self.view_is) in
    let e = simp to_z-of_z at c.raised.ensures.value in
    let r : c.raised.result ≡ added_of b.present old +ℤ w =
    e ∙ ap (λ x. x +ℤ w) c.added_at-added.ensures in
    simp to_z-of_z (rw r (raised_small b c.args.variable old w c.self.invariant at m))

pub moved-self-inside-requires-clause-sum : goal.moved-self-inside-requires-clause-sum
moved-self-inside-requires-clause-sum c =
    let b = c.self.inside in
    let f : SFits w128 b.least = search rules in
    rw (to_z-of_z w128 b.least f) (whole_small (state_in b) b.least b.least_cost
    (c.self.invariant).least)

pub invariant_of-self : goal.invariant_of-self
invariant_of-self c =
    let b = c.self.inside in
    let old = c.index.result.now in
    let w = c.args.weight in
    let v = c.args.variable in
    let f : SFits w128 c.added_at-added.result = search rules in
    let g : SFits w128 c.raised.result = search rules in
    let i : SFits w64 old.cost = search rules in
    let k : SFits w128 w = search rules in
    let o : SFits w128 c.moved-self-inside.result = search rules in
    let at = stands_at b c.args.self.now v old c.self.view_is c.requires.variable c.index.ensures in
    let m : b.mass + unsigned_abs w ≤ 2 ^ 120 =
    omega (arith, c.requires.room, ap (λ s. s.mass) c.self.view_is) in
    let e = simp to_z-of_z at c.raised.ensures.value in
    let r : c.raised.result ≡ added_of b.present old +ℤ w =
    e ∙ ap (λ x. x +ℤ w) c.added_at-added.ensures in
    let x = simp to_z-of_z at c.least_at-before.ensures.value in
    let y = simp to_z-of_z at c.least_at-after.ensures.value in
    let z = ap (λ (q : ℤ). least_at b.scale old.cost q old.value) c.added_at-added.ensures in
    let p : c.moved-self-inside.result
    +ℤ least_at b.scale old.cost (added_of b.present old) old.value
    ≡ b.least +ℤ least_at b.scale old.cost c.raised.result old.value
    = omega (arith, ints, c.moved-self-inside.ensures, x, y, z) in
    let u : c.unsigned_abs.result ≡ unsigned_abs w =
    simp to_z-of_z at c.unsigned_abs.ensures.value in
    let new : Term = record {
      added = c.raised.result;
      cost = old.cost;
      stamp = b.present;
      value =
          old.value;
    } in
    simp to_z-of_z (rw u record {
      least = added_put_kept b.cost_constant b.scale b.added_constant b.present b.terms.items v
          old new w b.weights b.mass b.least b.least_cost c.moved-self-inside.result
          (c.self.invariant).least at m refl refl refl r p;
      stamps = All-set (λ t. t.stamp ≤ b.present) b.terms.items v new (omega arith)
          (c.self.invariant).stamps;
    })

pub returns-clause-form : goal.returns-clause-form
returns-clause-form c =
    let b = c.self.inside in
    let old = c.index.result.now in
    let w = c.args.weight in
    let v = c.args.variable in
    let f : SFits w128 c.added_at-added.result = search rules in
    let g : SFits w128 c.raised.result = search rules in
    let i : SFits w64 old.cost = search rules in
    let k : SFits w128 w = search rules in
    let at = stands_at b c.args.self.now v old c.self.view_is c.requires.variable c.index.ensures in
    let e = simp to_z-of_z at c.raised.ensures.value in
    let r : c.raised.result ≡ added_of b.present old +ℤ w =
    e ∙ ap (λ x. x +ℤ w) c.added_at-added.ensures in
    let new : Term = record {
      added = c.raised.result;
      cost = old.cost;
      stamp = b.present;
      value =
          old.value;
    } in
    simp to_z-of_z (added_put b.cost_constant b.scale b.added_constant b.present b.terms.items v
    old new w at refl refl refl r
    ∙ ap (λ (s : BoundState). record (s.form) { added = plus_at w v (s.form).added })
    c.self.view_is)

pub moved-self-inside-requires-clause-old : goal.moved-self-inside-requires-clause-old
moved-self-inside-requires-clause-old c =
    let f : SFits w128 c.least_at-before.result = search rules in
    rw (to_z-of_z w128 c.least_at-before.result f) c.least_at-before.ensures.bound

pub moved-self-inside-requires-clause-new : goal.moved-self-inside-requires-clause-new
moved-self-inside-requires-clause-new c =
    let f : SFits w128 c.least_at-after.result = search rules in
    rw (to_z-of_z w128 c.least_at-after.result f) c.least_at-after.ensures.bound

pub raised-requires-clause-by : goal.raised-requires-clause-by
raised-requires-clause-by c =
    let w = c.args.weight in
    let f : SFits w128 w = search rules in
    rw (to_z-of_z w128 w f) (light c.args.self.now.mass (unsigned_abs w) c.requires.room)
