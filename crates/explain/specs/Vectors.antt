-- A worked instance: one of two is needed, and the bits give up the one that costs 3.
use Rattle.std.specs.Prelude.{◌≡◌, [], ◌∷◌, true, false, refl}
use Rattle.cnf.specs.Literal.{positive as p, negative as n}
use Rattle.cnf.specs.Problem.{Problem}
use Rattle.explain.specs.Falsified.{false_soft, false_hard}

abbrev one_of_two : Problem
one_of_two = record {
  variables = 2;
  hard = (p 1 ∷ p 2 ∷ []) ∷ [];
  soft =
      record { weight = 3; clause = n 1 ∷ [] } ∷ record { weight = 5; clause = n 2 ∷ [] } ∷ [];
}

given_up :
    false_soft one_of_two (true ∷ false ∷ []) ≡ record { place = 0; weight = 3 } ∷ []
given_up = refl

broken : false_hard one_of_two (false ∷ false ∷ []) ≡ 0 ∷ []
broken = refl
