-- What a bound of the cost is seen as, and what is true of it.
use Rattle.std.specs.Prelude.{◌≡◌, ℕ, ℤ, ◌+◌, ◌<◌, ◌≤◌, ◌^◌, sum_by}
use Rattle.std.specs.Int.RustNames.{unsigned_abs}
use Rattle.linear.specs.Costs.{CostForm, HasOneWidth, least, restarted}

pub record BoundState : Type 0 where
  -- a multiple of the cost, and what is added to it
  pub form : CostForm
  -- the sum of the weights that were added
  pub weights : ℕ
  -- at least the sum of the absolute values of the constant and the coefficients of the rest
  pub mass : ℕ

-- numbers of 128 bits hold every sum
pub record IsBounded (s : BoundState) : Type 0 where
  pub width : HasOneWidth s.form
  pub scale : (s.form).scale < 2 ^ 62
  pub constant : unsigned_abs ((s.form).cost).constant ≤ s.weights
  pub coefficients : sum_by unsigned_abs ((s.form).cost).coefficients ≤ s.weights
  pub weights : s.weights < 2 ^ 62
  pub added : unsigned_abs ((s.form).added).constant
      + sum_by unsigned_abs ((s.form).added).coefficients ≤ s.mass
  pub mass : s.mass ≤ 2 ^ 120

-- two numbers are its least value, and that of the cost alone
pub record HasLeast (s : BoundState) (l k : ℤ) : Type 0 where
  pub bounded : IsBounded s
  pub whole : l ≡ least s.form
  pub alone : k ≡ least (restarted 1 s.form)
