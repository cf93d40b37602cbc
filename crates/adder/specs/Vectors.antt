-- Worked networks.
use Rattle.std.specs.Prelude.{◌≡◌, ℕ, ◌+◌, ◌^◌, List, [], ◌∷◌, ◌++◌, map, Option, Some, None}
use Rattle.std.specs.Prelude.{replicate, refl}
use Rattle.cnf.specs.Literal.{Literal, positive, negation}
use Rattle.adder.specs.declared.cells.Cell.{Cell}
use Rattle.adder.specs.declared.profiles.Profile.{Profile}
use Rattle.adder.specs.declared.profiles.Profile.TheVariants.{One, Two}
use Rattle.adder.specs.Network.{Adders, adders_as}

-- one variable, and a soft clause of each weight
abbrev network_of : Profile → List ℕ → Adders
network_of profile ws =
    adders_as profile
    (record {
      variables = 1;
      hard = [];
      soft = map (λ w. record { weight = w; clause = positive 1 ∷ [] }) ws;
    })

-- a half adder and a full adder, with their new variables
abbrev half : ℕ → ℕ → ℕ → Cell
half a b sum = record { a = positive a; b = positive b; third = None; sum = sum; carry = sum + 1 }

abbrev full : ℕ → ℕ → ℕ → ℕ → Cell
full a b d sum =
    record { a = positive a; b = positive b; third = Some (positive d); sum = sum; carry = sum + 1 }

abbrev outputs : List ℕ → List (Option Literal)
outputs vs = map (λ v. Some (positive v)) vs

none : network_of One [] ≡ record { cells = []; outputs = [] }
none = refl

one : network_of One (5 ∷ [])
    ≡ record { cells = []; outputs = Some (positive 2) ∷ None ∷ Some (positive 2) ∷ [] }
one = refl

own : network_of Two (5 ∷ []) ≡ record {
  cells = [];
  outputs = Some (negation (positive 1)) ∷ None ∷ Some (negation (positive 1)) ∷ [];
}
own = refl

three_ones : network_of One (1 ∷ 1 ∷ 1 ∷ [])
    ≡ record { cells = full 2 3 4 5 ∷ []; outputs = outputs (5 ∷ 6 ∷ []) }
three_ones = refl

-- the sums 6 and 8 of a column, and what it carries: 7 and 9
four_ones : network_of One (1 ∷ 1 ∷ 1 ∷ 1 ∷ []) ≡ record {
  cells = full 2 3 4 6 ∷ half 5 6 8 ∷ half 7 9 10 ∷ [];
  outputs = outputs (8 ∷ 10 ∷ 11 ∷ []);
}
four_ones = refl

sixty_one_bits : network_of One ((2 ^ 60 + 1) ∷ (2 ^ 60) ∷ [])
    ≡ record {
      cells = half 2 3 4 ∷ [];
      outputs = Some (positive 2) ∷ replicate 59 None ++ outputs (4 ∷ 5 ∷ []);
    }
sixty_one_bits = refl
