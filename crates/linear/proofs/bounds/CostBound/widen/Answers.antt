-- Nothing stands at new variables.
use Rattle.std.proofs.Common.{arith, refl, sym, ap, ◌∙◌, ◌≡◌, ◌≤◌, ◌++◌, ◌-◌, List, replicate}
use Rattle.std.proofs.Common.{length, subst, pos, None}
use Rattle.std.specs.List.{All}
use Rattle.std.proofs.lemmas.List.{take_all}
use Rattle.std.proofs.lemmas.List.Elements.{All-append, All-replicate}
use Rattle.linear.specs.declared.terms.Term.{Term}
use Rattle.linear.specs.Costs.{CostForm, widened}
use Rattle.linear.specs.Bounds.{BoundState, HasLeast}
use Rattle.linear.specs.Terms.{form_of_terms}
use Rattle.linear.specs.Kept.{state_in}
use Rattle.linear.proofs.Moves.{widened_kept}
use Rattle.linear.proofs.Places.{widened_form}
use Rattle.linear.proofs.bounds.CostBound.widen.Goals as goal

abbrev nothing : Term
nothing = record { added = pos 0; cost = pos 0; stamp = 0; value = None }

pub invariant_of-self : goal.invariant_of-self
invariant_of-self c =
    let b = c.self.inside in
    let ts = b.terms.items in
    let w = c.args.width in
    let us = c.resize.new.self.items in
    let n = b.terms.ok.0 in
    let m : length ts ≤ w = omega (arith, n, c.if-width-len.true, c.len.ensures) in
    let e : us ≡ ts ++ replicate (w - length ts) nothing
    = c.in_ok-resize.ensures.items
    ∙ ap (λ xs. xs ++ replicate (w - b.terms.len) nothing) (take_all w ts m)
    ∙ ap (λ k. ts ++ replicate (w - k) nothing) n in
    let form = widened_form b.cost_constant b.scale b.added_constant b.present ts w nothing refl
    refl refl in
    record {
      least = subst (λ (f : CostForm). HasLeast
          (record { form = f; weights = b.weights; mass = b.mass }) b.least b.least_cost)
          (sym (ap (form_of_terms b.cost_constant b.scale b.added_constant b.present) e ∙ form))
          (widened_kept (state_in b) b.least b.least_cost w (c.self.invariant).least);
      stamps = subst (λ (xs : List Term). All (λ t. t.stamp ≤ b.present) xs) (sym e)
          (All-append (λ t. t.stamp ≤ b.present) ts (replicate (w - length ts) nothing)
          (c.self.invariant).stamps
          (All-replicate (λ t. t.stamp ≤ b.present) (w - length ts) nothing (omega arith)));
    }

pub returns-in_ok-resize : goal.returns-in_ok-resize
returns-in_ok-resize c =
    let b = c.self.inside in
    let ts = b.terms.items in
    let w = c.args.width in
    let us = c.resize.new.self.items in
    let n = b.terms.ok.0 in
    let m : length ts ≤ w = omega (arith, n, c.if-width-len.true, c.len.ensures) in
    let e : us ≡ ts ++ replicate (w - length ts) nothing
    = c.in_ok-resize.ensures.items
    ∙ ap (λ xs. xs ++ replicate (w - b.terms.len) nothing) (take_all w ts m)
    ∙ ap (λ k. ts ++ replicate (w - k) nothing) n in
    let form = widened_form b.cost_constant b.scale b.added_constant b.present ts w nothing refl
    refl refl in
    ap (λ (f : CostForm). record { form = f; weights = b.weights; mass = b.mass })
    (ap (form_of_terms b.cost_constant b.scale b.added_constant b.present) e ∙ form)
    ∙ ap (λ (s : BoundState). record s { form = widened w s.form }) c.self.view_is
