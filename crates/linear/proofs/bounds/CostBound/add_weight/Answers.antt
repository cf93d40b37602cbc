-- The cost grows by what a literal weighs, and its least value by what that gives.
use Rattle.std.proofs.Common.{rules, arith, w64, ◌≡◌, ℤ, ◌+ℤ◌, ◌-ℤ◌, ◌<◌, ◌≤◌, ◌^◌, ap, ◌∙◌, refl}
use Rattle.std.proofs.Common.{ℕ, ◌+◌, pos}
use Rattle.std.specs.Int.RustNames.{unsigned_abs}
use Rattle.std.specs.Prelude.{if◌then◌else◌}
use Rattle.std.proofs.lemmas.Int.{ints, to_z-of_z}
use Rattle.std.proofs.lemmas.List.Elements.{All-set, All-get_or}
use mir.Syntax.{w128}
use mir.Val.{SFits}
use Rattle.linear.specs.declared.terms.Term.{Term}
use Rattle.linear.specs.Linear.{Linear, plus_at, plus_constant, plus_literal}
use Rattle.linear.specs.Terms.{form_of_terms}
use Rattle.linear.specs.Bounds.{BoundState}
use Rattle.linear.specs.Kept.{state_in}
use Rattle.linear.proofs.Sums.{least_at}
use Rattle.linear.proofs.Moves.{alone_small}
use Rattle.linear.proofs.Places.{stands_at, kept_small, kept_cost, alone_part, cost_put}
use Rattle.linear.proofs.Places.{cost_put_kept, literal_parts}
use Rattle.linear.proofs.bounds.CostBound.add_weight.Goals as goal

light : (x w n : ℕ) → x ≤ w → n + w < 2 ^ 62 → x < 2 ^ 62
light x w n le small = omega arith

light_constant : (x w n : ℕ) → x ≤ w → n + w < 2 ^ 62 → x < 2 ^ 126
light_constant x w n le small = omega arith

pub raised_cost-requires-clause-cost : goal.raised_cost-requires-clause-cost
raised_cost-requires-clause-cost c =
    let b = c.self.inside in
    let old = c.index.result.now in
    let i : SFits w64 old.cost = search rules in
    let at = stands_at b c.args.self.now c.variable-variable.result old c.self.view_is
    (rw c.variable-variable.ensures.variable c.requires.variable) c.index.ensures in
    rw (to_z-of_z w64 old.cost i) (kept_small b c.variable-variable.result old c.self.invariant
    at).cost

pub raised-alone-requires-clause-sum : goal.raised-alone-requires-clause-sum
raised-alone-requires-clause-sum c =
    let b = c.self.inside in
    let f : SFits w128 b.least_cost = search rules in
    let s : unsigned_abs b.least_cost < 2 ^ 126
    = omega (arith, alone_small (state_in b) b.least b.least_cost (c.self.invariant).least) in
    rw (to_z-of_z w128 b.least_cost f) s

pub least_at-requires : goal.least_at-requires
least_at-requires c =
    let b = c.self.inside in
    let old = c.index.result.now in
    let at = stands_at b c.args.self.now c.variable-variable.result old c.self.view_is
    (rw c.variable-variable.ensures.variable c.requires.variable) c.index.ensures in
    alone_part (kept_small b c.variable-variable.result old c.self.invariant at)

pub least_at-requires-2 : goal.least_at-requires-2
least_at-requires-2 c =
    let b = c.self.inside in
    let old = c.index.result.now in
    let i : SFits w64 old.cost = search rules in
    let j : SFits w64 c.coefficient_part-by.result = search rules in
    let k : SFits w64 c.raised_cost.result = search rules in
    let at = stands_at b c.args.self.now c.variable-variable.result old c.self.view_is
    (rw c.variable-variable.ensures.variable c.requires.variable) c.index.ensures in
    let d = kept_cost b c.variable-variable.result old c.self.invariant at in
    let e = simp to_z-of_z at c.raised_cost.ensures.bound in
    let w = ap (λ (s : BoundState). s.weights) c.self.view_is in
    let small : unsigned_abs c.raised_cost.result < 2 ^ 62
    = omega (arith, d, e, w, c.coefficient_part-by.ensures.bound, c.requires.small) in
    rw (to_z-of_z w64 c.raised_cost.result k) record
    { times = omega arith; cost = small; added = omega arith }

pub moved-self-inside-requires-clause-sum : goal.moved-self-inside-requires-clause-sum
moved-self-inside-requires-clause-sum c =
    let b = c.self.inside in
    let f : SFits w128 b.least_cost = search rules in
    let g : SFits w128 c.constant_part-constant.result = search rules in
    let h : SFits w128 c.raised-alone.result = search rules in
    let e = simp to_z-of_z at c.raised-alone.ensures.bound in
    let a = alone_small (state_in b) b.least b.least_cost (c.self.invariant).least in
    let small : unsigned_abs c.raised-alone.result < 2 ^ 126
    = omega (arith, a, e, c.constant_part-constant.ensures.bound, c.requires.small) in
    rw (to_z-of_z w128 c.raised-alone.result h) small

pub invariant_of-self : goal.invariant_of-self
invariant_of-self c =
    let b = c.self.inside in
    let old = c.index.result.now in
    let v = c.variable-variable.result in
    let x = c.coefficient_part-by.result in
    let y = c.constant_part-constant.result in
    let f : SFits w128 old.added = search rules in
    let g : SFits w64 old.cost = search rules in
    let h : SFits w64 x = search rules in
    let i : SFits w128 y = search rules in
    let j : SFits w64 c.raised_cost.result = search rules in
    let k : SFits w128 b.least_cost = search rules in
    let m : SFits w128 b.cost_constant = search rules in
    let n : SFits w128 c.raised-self-inside.result = search rules in
    let o : SFits w128 c.moved-self-inside.result = search rules in
    let p : SFits w128 c.raised-alone.result = search rules in
    let at = stands_at b c.args.self.now v old c.self.view_is
    (rw c.variable-variable.ensures.variable c.requires.variable) c.index.ensures in
    let cost = simp to_z-of_z at c.raised_cost.ensures.value in
    let constant = simp to_z-of_z at c.raised-self-inside.ensures.value in
    let alone = simp to_z-of_z at c.raised-alone.ensures.value in
    let before = c.least_at.ensures.value in
    let after : c.least_at-2.result ≡ least_at 1 c.raised_cost.result (pos 0) old.value
    = c.least_at-2.ensures.value
    ∙ ap (λ (u : ℤ). least_at 1 u (pos 0) old.value) (to_z-of_z w64 c.raised_cost.result j) in
    let moved : c.moved-self-inside.result +ℤ least_at 1 old.cost (pos 0) old.value
    ≡ (b.least_cost +ℤ y) +ℤ least_at 1 c.raised_cost.result (pos 0) old.value
    = omega (arith, ints, c.moved-self-inside.ensures, before, after, alone) in
    let w = ap (λ (s : BoundState). s.weights) c.self.view_is in
    let none = ap (λ (s : BoundState). (s.form).scale) c.self.view_is ∙ c.requires.none in
    let new : Term = record {
      added = old.added;
      cost = c.raised_cost.result;
      stamp =
          old.stamp;
      value = old.value;
    } in
    let q = All-get_or (λ t. t.stamp ≤ b.present) b.terms.items v old at.within
    (c.self.invariant).stamps in
    simp to_z-of_z (rw constant record {
      least = cost_put_kept b.cost_constant y b.scale b.added_constant b.present b.terms.items v
          old new x b.weights b.mass c.args.weight b.least b.least_cost c.moved-self-inside.result
          (c.self.invariant).least none at cost refl refl refl
          c.coefficient_part-by.ensures.bound c.constant_part-constant.ensures.bound
          (omega (arith, w, c.requires.small)) moved;
      stamps = All-set (λ t. t.stamp ≤ b.present) b.terms.items v new
          (rw at.here q) (c.self.invariant).stamps;
    })

pub returns-clause-form : goal.returns-clause-form
returns-clause-form c =
    let b = c.self.inside in
    let old = c.index.result.now in
    let v = c.variable-variable.result in
    let l = c.args.lit in
    let x = c.coefficient_part-by.result in
    let y = c.constant_part-constant.result in
    let f : SFits w128 old.added = search rules in
    let g : SFits w64 old.cost = search rules in
    let h : SFits w64 x = search rules in
    let i : SFits w128 y = search rules in
    let j : SFits w64 c.raised_cost.result = search rules in
    let m : SFits w128 b.cost_constant = search rules in
    let n : SFits w128 c.raised-self-inside.result = search rules in
    let at = stands_at b c.args.self.now v old c.self.view_is
    (rw c.variable-variable.ensures.variable c.requires.variable) c.index.ensures in
    let cost = simp to_z-of_z at c.raised_cost.ensures.value in
    let constant = simp to_z-of_z at c.raised-self-inside.ensures.value in
    let new : Term = record {
      added = old.added;
      cost = c.raised_cost.result;
      stamp =
          old.stamp;
      value = old.value;
    } in
    let weight = pos c.args.weight in
    let first = cost_put b.cost_constant y b.scale b.added_constant b.present b.terms.items v old
    new x at cost refl refl refl in
    let form = form_of_terms b.cost_constant b.scale b.added_constant b.present b.terms.items in
    let by : x ≡ (if l.negated then pos 0 -ℤ weight else weight)
    = c.coefficient_part-by.ensures.value
    ∙ ap (λ t. if t then pos 0 -ℤ weight else weight) c.is_negated.ensures in
    let to : y ≡ (if l.negated then weight else pos 0)
    = c.constant_part-constant.ensures.value
    ∙ ap (λ t. if t then weight else pos 0) c.is_negated-2.ensures in
    let parts : plus_at x v (plus_constant y form.cost) ≡ plus_literal weight l form.cost
    = ap (λ t. plus_at x t (plus_constant y form.cost)) c.variable-variable.ensures.variable
    ∙ ap (λ (t : ℤ). plus_at t l.variable (plus_constant y form.cost)) by
    ∙ ap (λ (t : ℤ). plus_at (if l.negated then pos 0 -ℤ weight else weight) l.variable
    (plus_constant t form.cost)) to
    ∙ literal_parts weight l form.cost in
    simp to_z-of_z (rw constant (first
    ∙ ap (λ (t : Linear). record form { cost = t }) parts
    ∙ ap (λ (s : BoundState). record (s.form) { cost = plus_literal weight l (s.form).cost })
    c.self.view_is))

pub raised_cost-requires-clause-weight : goal.raised_cost-requires-clause-weight
raised_cost-requires-clause-weight c =
    let x = c.coefficient_part-by.result in
    let f : SFits w64 x = search rules in
    rw (to_z-of_z w64 x f) (light (unsigned_abs x) c.args.weight c.args.self.now.weights
    c.coefficient_part-by.ensures.bound c.requires.small)

pub raised-alone-requires-clause-by : goal.raised-alone-requires-clause-by
raised-alone-requires-clause-by c =
    let y = c.constant_part-constant.result in
    let f : SFits w128 y = search rules in
    rw (to_z-of_z w128 y f) (light_constant (unsigned_abs y) c.args.weight c.args.self.now.weights
    c.constant_part-constant.ensures.bound c.requires.small)

pub moved-self-inside-requires-clause-old : goal.moved-self-inside-requires-clause-old
moved-self-inside-requires-clause-old c =
    let f : SFits w128 c.least_at.result = search rules in
    rw (to_z-of_z w128 c.least_at.result f) c.least_at.ensures.bound

pub moved-self-inside-requires-clause-new : goal.moved-self-inside-requires-clause-new
moved-self-inside-requires-clause-new c =
    let f : SFits w128 c.least_at-2.result = search rules in
    rw (to_z-of_z w128 c.least_at-2.result f) c.least_at-2.ensures.bound

pub raised-self-inside-requires-clause-by : goal.raised-self-inside-requires-clause-by
raised-self-inside-requires-clause-by c =
    let y = c.constant_part-constant.result in
    let f : SFits w128 y = search rules in
    rw (to_z-of_z w128 y f) (light_constant (unsigned_abs y) c.args.weight c.args.self.now.weights
    c.constant_part-constant.ensures.bound c.requires.small)
