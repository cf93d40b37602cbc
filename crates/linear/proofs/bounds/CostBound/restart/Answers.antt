-- The cost is taken another number of times, with nothing beside it.
use Rattle.std.proofs.Common.{rules, arith, sym, ap, ◌∙◌, ◌<◌, ◌≤◌, ◌*ℤ◌, ℤ, List, subst, pos}
use Rattle.std.specs.List.{All}
use Rattle.std.specs.Vec.{with_items}
use Rattle.std.proofs.lemmas.Int.{to_z-of_z}
use Rattle.std.proofs.lemmas.List.Elements.{All-weaker}
use Rattle.std.proofs.lemmas.List.{with_items_is}
use mir.Syntax.{w128}
use mir.Val.{SFits}
use Rattle.linear.specs.declared.terms.Term.{Term}
use Rattle.linear.specs.Costs.{CostForm, restarted}
use Rattle.linear.specs.Bounds.{BoundState, HasLeast}
use Rattle.linear.specs.Terms.{costs, values, form_of_terms}
use Rattle.linear.specs.Kept.{state_in}
use Rattle.linear.proofs.Moves.{alone_small, restarted_kept}
use Rattle.linear.proofs.Places.{fresh_stamp, same_items}
use Rattle.linear.proofs.bounds.CostBound.restart.Goals as goal

pub scaled-self-inside-requires-clause-least : goal.scaled-self-inside-requires-clause-least
scaled-self-inside-requires-clause-least c =
    let b = c.self.inside in
    let f : SFits w128 b.least_cost = search rules in
    rw (to_z-of_z w128 b.least_cost f)
    (alone_small (state_in b) b.least b.least_cost (c.self.invariant).least)

pub returns-clause-form : goal.returns-clause-form
returns-clause-form c =
    let b = c.self.inside in
    let ts = b.terms.items in
    let us = c.next_stamp-self-inside.new.terms in
    let p = c.next_stamp-self-inside.result in
    let q = c.deref_mut.ensures.value in
    let d = c.next_stamp-self-inside.ensures.costs ∙ ap costs q in
    let f = c.next_stamp-self-inside.ensures.values ∙ ap values q in
    let e = with_items_is b.terms us (same_items ts us f ∙ sym (b.terms.ok.0)) in
    rw e (fresh_stamp p ts us d f c.next_stamp-self-inside.ensures.above b.cost_constant
    c.args.scale b.scale b.added_constant b.present
    ∙ ap (λ (s : BoundState). restarted c.args.scale s.form) c.self.view_is)

pub invariant_of-self : goal.invariant_of-self
invariant_of-self c =
    let b = c.self.inside in
    let ts = b.terms.items in
    let us = c.next_stamp-self-inside.new.terms in
    let p = c.next_stamp-self-inside.result in
    let q = c.deref_mut.ensures.value in
    let d = c.next_stamp-self-inside.ensures.costs ∙ ap costs q in
    let f = c.next_stamp-self-inside.ensures.values ∙ ap values q in
    let e = with_items_is b.terms us (same_items ts us f ∙ sym (b.terms.ok.0)) in
    let g : SFits w128 b.least_cost = search rules in
    let i : SFits w128 c.scaled-self-inside.result = search rules in
    let x = simp to_z-of_z at c.scaled-self-inside.ensures in
    let above = c.next_stamp-self-inside.ensures.above in
    let form = fresh_stamp p ts us d f above b.cost_constant c.args.scale b.scale b.added_constant
    b.present in
    let kept = restarted_kept (state_in b) b.least b.least_cost c.args.scale
    (c.self.invariant).least c.requires in
    let l = to_z-of_z w128 c.scaled-self-inside.result i ∙ x in
    let k = b.least_cost in
    record {
      least = subst (λ (y : ℤ). HasLeast (record {
        form = form_of_terms b.cost_constant c.args.scale (pos 0) p (with_items b.terms us).items;
        weights = b.weights;
        mass = 0;
      }) y k) (sym l)
          (subst (λ (y : CostForm). HasLeast (record { form = y; weights = b.weights; mass = 0 })
          (pos c.args.scale *ℤ k) k)
          (sym (ap (form_of_terms b.cost_constant c.args.scale (pos 0) p) e ∙ form)) kept);
      stamps = subst (λ (xs : List Term). All (λ t. t.stamp ≤ p) xs) (sym e)
          (All-weaker (λ t. t.stamp < p) (λ t. t.stamp ≤ p) (λ t h. omega (arith, h)) us above);
    }
