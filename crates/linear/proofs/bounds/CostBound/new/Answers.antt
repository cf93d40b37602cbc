-- No cost, and nothing beside it.
use Rattle.std.proofs.Common.{List, arith, refl, sym, subst, replicate, pos, None, ◌≤◌, ◌≡◌}
use Rattle.std.specs.List.{All}
use Rattle.std.proofs.lemmas.List.Elements.{All-replicate}
use Rattle.linear.specs.declared.terms.Term.{Term}
use Rattle.linear.specs.Costs.{CostForm}
use Rattle.linear.specs.Bounds.{HasLeast}
use Rattle.linear.proofs.Moves.{new_kept}
use Rattle.linear.proofs.Places.{nothing_form}
use Rattle.linear.proofs.bounds.CostBound.new.Goals as goal

abbrev nothing : Term
nothing = record { added = pos 0; cost = pos 0; stamp = 0; value = None }

pub returns-clause-form : goal.returns-clause-form
returns-clause-form c =
    rw (c.in_ok-from_elem.ensures.items_if_clones_equal (λ y q. q))
    (nothing_form c.args.width nothing refl refl refl)

pub invariant_of-result : goal.invariant_of-result
invariant_of-result c =
    let n = c.args.width in
    let ts = c.in_ok-from_elem.field-0.items in
    let e : ts ≡ replicate n nothing = c.in_ok-from_elem.ensures.items_if_clones_equal (λ y q. q) in
    record {
      least = subst (λ (f : CostForm). HasLeast (record { form = f; weights = 0; mass = 0 }) (pos 0)
          (pos 0))
          (sym (rw e (nothing_form n nothing refl refl refl))) (new_kept n);
      stamps = subst (λ (us : List Term). All (λ t. t.stamp ≤ 0) us) (sym e)
          (All-replicate (λ t. t.stamp ≤ 0) n nothing (omega arith));
    }
