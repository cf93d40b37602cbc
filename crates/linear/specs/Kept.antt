-- How a bound of the cost is kept.
use Rattle.std.specs.Prelude.{◌≤◌, All}
use Rattle.linear.specs.declared.bounds.CostBound.TheInside.{Inside}
use Rattle.linear.specs.Bounds.{BoundState, HasLeast}
use Rattle.linear.specs.Terms.{form_of_terms}

abbrev pub state_in : Inside → BoundState
state_in b = record {
  form = form_of_terms b.cost_constant b.scale b.added_constant b.present b.terms.items;
  weights = b.weights;
  mass = b.mass;
}

-- the least values are at hand, and no stamp is yet to come
pub record IsBoundKept (b : Inside) : Type 0 where
  pub least : HasLeast (state_in b) b.least b.least_cost
  pub stamps : All (λ t. t.stamp ≤ b.present) b.terms.items
