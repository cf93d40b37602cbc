-- Worked marks: those of 'not one or two'.
use Rattle.std.specs.Prelude.{◌≡◌, Bool, true, false, List, [], ◌∷◌, refl}
use Rattle.cnf.specs.Literal.{positive as p, negative as n}
use Rattle.cnf.specs.Marks.{mark_of, are_marked}

abbrev marks : List Bool
marks = false ∷ true ∷ true ∷ false ∷ []

marked : mark_of marks (p 2) ≡ true
marked = refl

-- no variable above 2 has a mark
beyond : mark_of marks (p 3) ≡ false
beyond = refl

both : are_marked marks (p 2 ∷ n 1 ∷ []) ≡ true
both = refl

one : are_marked marks (n 1 ∷ n 2 ∷ []) ≡ false
one = refl
