-- Two lists, read side by side as one.
use Rattle.std.specs.Prelude.{List, [], ◌∷◌}

-- as many as there are on both sides
abbrev pub zipped : {X Y Z : Type 0} → (X → Y → Z) → List X → List Y → List Z
zipped f [] ys = []
zipped f (x ∷ xs) [] = []
zipped f (x ∷ xs) (y ∷ ys) = f x y ∷ zipped f xs ys
