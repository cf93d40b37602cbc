-- What stands at each variable: its coefficients and its value.
use Rattle.std.specs.Prelude.{ℕ, ℤ, pos, Bool, List, map, Option, ◌==◌, ◌<◌, ◌≤◌, ◌^◌}
use Rattle.std.specs.Prelude.{if◌then◌else◌}
use Rattle.std.specs.Int.RustNames.{unsigned_abs}
use Rattle.linear.specs.declared.terms.Term.{Term}
use Rattle.linear.specs.Costs.{CostForm}

-- a coefficient beside the cost counts only at the present stamp
abbrev pub added_of : ℕ → Term → ℤ
added_of present t = if t.stamp == present then t.added else pos 0

-- so small that the coefficient of both together takes 126 bits
pub record AreSmall (scale : ℕ) (c r : ℤ) : Type 0 where
  pub times : scale < 2 ^ 62
  pub cost : unsigned_abs c < 2 ^ 62
  pub added : unsigned_abs r ≤ 2 ^ 120

abbrev pub costs : List Term → List ℤ
costs ts = map (λ t. t.cost) ts

abbrev pub additions : ℕ → List Term → List ℤ
additions present ts = map (added_of present) ts

abbrev pub values : List Term → List (Option Bool)
values ts = map (λ t. t.value) ts

-- with the constant of the cost, how many times it is taken, and the constant beside it
abbrev pub form_of_terms : ℤ → ℕ → ℤ → ℕ → List Term → CostForm
form_of_terms cost scale added present ts = record {
  cost = record { constant = cost; coefficients = costs ts };
  scale = scale;
  added = record { constant = added; coefficients = additions present ts };
  fixed = values ts;
}
