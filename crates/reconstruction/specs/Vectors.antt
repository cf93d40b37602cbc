-- Worked values of extended bits.
use Rattle.std.specs.Prelude.{◌≡◌, true, false, List, [], ◌∷◌, refl}
use Rattle.cnf.specs.Literal.{positive as p, negative as n}
use Rattle.reconstruction.specs.Removals.{Removed, extended}

-- variable 1 was eliminated from the clauses 1 2 and -1 3
abbrev one : List Removed
one = record { variable = 1; clauses = (p 1 ∷ p 2 ∷ []) ∷ (n 1 ∷ p 3 ∷ []) ∷ [] } ∷ []

needed : extended one (false ∷ false ∷ true ∷ []) ≡ true ∷ false ∷ true ∷ []
needed = refl

not_needed : extended one (true ∷ true ∷ false ∷ []) ≡ false ∷ true ∷ false ∷ []
not_needed = refl
