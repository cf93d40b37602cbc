-- What a search may rely on of its policy.
use Rattle.std.specs.Prelude.{ℕ, Bool}

pub record PolicyState : Type 0 where
  -- it is one over the variables from 1 up to this number
  pub variables : ℕ
  -- a clause was learned since the search began or last restarted
  pub has_learned : Bool
