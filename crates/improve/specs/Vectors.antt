-- Worked bounds: three soft clauses of weight 1, and the costs 3 and 2.
use Rattle.std.specs.Prelude.{◌≡◌, [], ◌∷◌, refl, length}
use Rattle.cnf.specs.Literal.{positive as p, negative as n}
use Rattle.cnf.specs.Problem.{Problem}
use Rattle.adder.specs.declared.profiles.Profile.TheVariants.{One}
use Rattle.bound.specs.Bound.{fixed_clauses}
use Rattle.improve.specs.Improving.{weaker_for}

abbrev three : Problem
three = record {
  variables = 3;
  hard = [];
  soft =
      record { weight = 1; clause = p 1 ∷ [] } ∷ record { weight = 1; clause = p 2 ∷ [] }
      ∷ record { weight = 1; clause = p 3 ∷ [] } ∷ [];
}

fixed : length (fixed_clauses One three) ≡ 17
fixed = refl

weaker : weaker_for One three (3 ∷ 2 ∷ []) 2 ≡ (n 7 ∷ n 8 ∷ [], 18) ∷ []
weaker = refl
