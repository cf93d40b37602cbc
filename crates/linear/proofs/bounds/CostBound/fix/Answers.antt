-- A variable gets a value, and both least values change by what that gives.
use Rattle.std.proofs.Common.{rules, arith, to_z, of_z, w64, ◌≡◌, ℤ, ◌+ℤ◌, ◌<◌, ◌≤◌, ◌^◌, ap, sym}
use Rattle.std.proofs.Common.{◌∙◌, refl, pos, Some, None, not, get_or, set, List, Option, Bool}
use Rattle.std.specs.Int.RustNames.{unsigned_abs}
use Rattle.std.proofs.lemmas.Int.{ints, to_z-of_z}
use Rattle.std.proofs.lemmas.List.Elements.{All-set, All-get_or}
use mir.Syntax.{w128}
use mir.Val.{SFits}
use Rattle.linear.specs.declared.terms.Term.{Term}
use Rattle.linear.specs.Costs.{CostForm, fixed_by}
use Rattle.linear.specs.Terms.{form_of_terms, added_of, values}
use Rattle.linear.specs.Bounds.{BoundState}
use Rattle.linear.specs.Kept.{state_in}
use Rattle.linear.proofs.Sums.{least_at}
use Rattle.linear.proofs.Moves.{whole_small, alone_small}
use Rattle.linear.proofs.Places.{stands_at, kept_small, alone_part, value_here, value_put}
use Rattle.linear.proofs.Places.{value_put_kept, fixed_here, none_is}
use Rattle.linear.proofs.bounds.CostBound.fix.Goals as goal

pub least_at-before-requires : goal.least_at-before-requires
least_at-before-requires c =
    let b = c.self.inside in
    let old = c.index.result.now in
    let f : SFits w128 c.added_at-added.result = search rules in
    let at = stands_at b c.args.self.now c.variable-variable.result old c.self.view_is
    (rw c.variable-variable.ensures.variable c.requires) c.index.ensures in
    rw (to_z-of_z w128 c.added_at-added.result f, c.added_at-added.ensures)
    (kept_small b c.variable-variable.result old c.self.invariant at)

pub least_at-after-requires : goal.least_at-after-requires
least_at-after-requires c =
    let b = c.self.inside in
    let old = c.index.result.now in
    let f : SFits w128 c.added_at-added.result = search rules in
    let g : SFits w64 old.cost = search rules in
    let at = stands_at b c.args.self.now c.variable-variable.result old c.self.view_is
    (rw c.variable-variable.ensures.variable c.requires) c.index.ensures in
    simp to_z-of_z (rw c.added_at-added.ensures
    (kept_small b c.variable-variable.result old c.self.invariant at))

pub moved-self-inside-requires-clause-sum : goal.moved-self-inside-requires-clause-sum
moved-self-inside-requires-clause-sum c =
    let b = c.self.inside in
    let f : SFits w128 b.least = search rules in
    rw (to_z-of_z w128 b.least f)
    (whole_small (state_in b) b.least b.least_cost (c.self.invariant).least)

pub least_at-before-requires-then-is_none : goal.least_at-before-requires-then-is_none
least_at-before-requires-then-is_none c =
    let b = c.self.inside in
    let old = c.index.result.now in
    let at = stands_at b c.args.self.now c.variable-variable.result old c.self.view_is
    (rw c.variable-variable.ensures.variable c.requires) c.index.ensures in
    alone_part (kept_small b c.variable-variable.result old c.self.invariant at)

pub least_at-after-requires-then-is_none : goal.least_at-after-requires-then-is_none
least_at-after-requires-then-is_none c =
    let b = c.self.inside in
    let old = c.index.result.now in
    let g : SFits w64 old.cost = search rules in
    let at = stands_at b c.args.self.now c.variable-variable.result old c.self.view_is
    (rw c.variable-variable.ensures.variable c.requires) c.index.ensures in
    simp to_z-of_z (alone_part (kept_small b c.variable-variable.result old c.self.invariant at))

pub moved-self-inside-requires-then-is_none-clause-sum :
    goal.moved-self-inside-requires-then-is_none-clause-sum
moved-self-inside-requires-then-is_none-clause-sum c =
    let b = c.self.inside in
    let f : SFits w128 b.least_cost = search rules in
    let s : unsigned_abs b.least_cost < 2 ^ 126
    = omega (arith, alone_small (state_in b) b.least b.least_cost (c.self.invariant).least) in
    rw (to_z-of_z w128 b.least_cost f) s

pub invariant_of-self : goal.invariant_of-self
invariant_of-self c =
    let b = c.self.inside in
    let old = c.index.result.now in
    let v = c.variable-variable.result in
    let x = not c.is_negated.result in
    let f : SFits w128 c.added_at-added.result = search rules in
    let g : SFits w128 old.added = search rules in
    let i : SFits w64 old.cost = search rules in
    let m : SFits w128 c.moved-self-inside.result = search rules in
    let n : SFits w128 c.moved-self-inside-then-is_none.result = search rules in
    let at = stands_at b c.args.self.now v old c.self.view_is
    (rw c.variable-variable.ensures.variable c.requires) c.index.ensures in
    let e = to_z-of_z w128 c.added_at-added.result f in
    let k = to_z-of_z w64 old.cost i in
    let y : c.least_at-before.result ≡ least_at b.scale old.cost (added_of b.present old) old.value
    = c.least_at-before.ensures.value
    ∙ ap (λ (u : ℤ). least_at b.scale old.cost u old.value) (e ∙ c.added_at-added.ensures) in
    let z : c.least_at-after.result ≡ least_at b.scale old.cost (added_of b.present old) (Some x)
    = c.least_at-after.ensures.value
    ∙ ap (λ (u : ℤ). least_at b.scale u (to_z w128 (of_z w128 c.added_at-added.result)) (Some x)) k
    ∙ ap (λ (u : ℤ). least_at b.scale old.cost u (Some x)) (e ∙ c.added_at-added.ensures) in
    let y2 = c.least_at-before-then-is_none.ensures.value in
    let z2 : c.least_at-after-then-is_none.result ≡ least_at 1 old.cost (pos 0) (Some x)
    = c.least_at-after-then-is_none.ensures.value
    ∙ ap (λ (u : ℤ). least_at 1 u (pos 0) (Some x)) k in
    let p : c.moved-self-inside.result
    +ℤ least_at b.scale old.cost (added_of b.present old) old.value
    ≡ b.least +ℤ least_at b.scale old.cost (added_of b.present old) (Some x)
    = omega (arith, ints, c.moved-self-inside.ensures, y, z) in
    let q : c.moved-self-inside-then-is_none.result +ℤ least_at 1 old.cost (pos 0) old.value
    ≡ b.least_cost +ℤ least_at 1 old.cost (pos 0) (Some x)
    = omega (arith, ints, c.moved-self-inside-then-is_none.ensures, y2, z2) in
    let new : Term = record {
      added = old.added;
      cost = old.cost;
      stamp = old.stamp;
      value = Some x;
    } in
    let o = All-get_or (λ t. t.stamp ≤ b.present) b.terms.items v old at.within
    (c.self.invariant).stamps in
    simp to_z-of_z record {
      least = value_put_kept b.cost_constant b.scale b.added_constant b.present b.terms.items v
          old new x b.weights b.mass b.least b.least_cost c.moved-self-inside.result
          c.moved-self-inside-then-is_none.result (c.self.invariant).least at refl refl refl refl p
          q;
      stamps = All-set (λ t. t.stamp ≤ b.present) b.terms.items v new
          (rw at.here o) (c.self.invariant).stamps;
    }

pub returns-then-is_none : goal.returns-then-is_none
returns-then-is_none c =
    let b = c.self.inside in
    let old = c.index.result.now in
    let v = c.variable-variable.result in
    let x = not c.is_negated.result in
    let g : SFits w128 old.added = search rules in
    let i : SFits w64 old.cost = search rules in
    let at = stands_at b c.args.self.now v old c.self.view_is
    (rw c.variable-variable.ensures.variable c.requires) c.index.ensures in
    let new : Term = record {
      added = old.added;
      cost = old.cost;
      stamp = old.stamp;
      value = Some x;
    } in
    let p = value_put b.cost_constant b.scale b.added_constant b.present b.terms.items v old new
    (Some x) at refl refl refl refl in
    let ts = b.terms.items in
    let l = c.args.lit in
    let here = c.variable-variable.ensures.variable in
    let none : get_or (values ts) l.variable None ≡ None
    = ap (λ i. get_or (values ts) i None) (sym here) ∙ value_here ts v old at
    ∙ none_is old.value c.if-is_none.ensures in
    let q : set (values ts) v (Some x) ≡ fixed_by l (values ts)
    = ap (λ i. set (values ts) i (Some x)) here
    ∙ ap (λ n. set (values ts) l.variable (Some (not n))) c.is_negated.ensures
    ∙ sym (fixed_here l (values ts) none) in
    let f = form_of_terms b.cost_constant b.scale b.added_constant b.present ts in
    simp to_z-of_z (ap (λ (y : CostForm). record { form = y; weights = b.weights; mass = b.mass })
    (p ∙ ap (λ (fs : List (Option Bool)). record f { fixed = fs }) q)
    ∙ ap (λ (s : BoundState). record s {
      form = record (s.form) { fixed = fixed_by l (s.form).fixed };
    }) c.self.view_is)

pub moved-self-inside-requires-clause-old : goal.moved-self-inside-requires-clause-old
moved-self-inside-requires-clause-old c =
    let f : SFits w128 c.least_at-before.result = search rules in
    rw (to_z-of_z w128 c.least_at-before.result f) c.least_at-before.ensures.bound

pub moved-self-inside-requires-clause-new : goal.moved-self-inside-requires-clause-new
moved-self-inside-requires-clause-new c =
    let f : SFits w128 c.least_at-after.result = search rules in
    rw (to_z-of_z w128 c.least_at-after.result f) c.least_at-after.ensures.bound

pub moved-self-inside-requires-then-is_none-clause-old :
    goal.moved-self-inside-requires-then-is_none-clause-old
moved-self-inside-requires-then-is_none-clause-old c =
    let f : SFits w128 c.least_at-before-then-is_none.result = search rules in
    rw (to_z-of_z w128 c.least_at-before-then-is_none.result f)
    c.least_at-before-then-is_none.ensures.bound

pub moved-self-inside-requires-then-is_none-clause-new :
    goal.moved-self-inside-requires-then-is_none-clause-new
moved-self-inside-requires-then-is_none-clause-new c =
    let f : SFits w128 c.least_at-after-then-is_none.result = search rules in
    rw (to_z-of_z w128 c.least_at-after-then-is_none.result f)
    c.least_at-after-then-is_none.ensures.bound
