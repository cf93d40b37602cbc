-- The clauses of adders, with names for the negations.
use Rattle.std.proofs.Common.{◌≡◌, List, [], ◌∷◌, ◌++◌, subst}
use Rattle.cnf.specs.Literal.{Literal}
use Rattle.bound.specs.Bound.{no, full_clauses, half_clauses}
use Rattle.bound.specs.Adding.{Adds}
use Rattle.bound.proofs.Kept.{adds_more}

abbrev of_three : (a na b nb d nd s ns : Literal) → List (List Literal)
of_three a na b nb d nd s ns =
    (a ∷ b ∷ d ∷ ns ∷ []) ∷ (a ∷ b ∷ nd ∷ s ∷ []) ∷ (a ∷ nb ∷ d ∷ s ∷ []) ∷ (a ∷ nb ∷ nd ∷ ns ∷ [])
    ∷ (na ∷ b ∷ d ∷ s ∷ []) ∷ (na ∷ b ∷ nd ∷ ns ∷ []) ∷ (na ∷ nb ∷ d ∷ ns ∷ [])
    ∷ (na ∷ nb ∷ nd ∷ s ∷ []) ∷ []

abbrev of_pairs : (a na b nb d nd c nc : Literal) → List (List Literal)
of_pairs a na b nb d nd c nc =
    (a ∷ b ∷ nc ∷ []) ∷ (a ∷ d ∷ nc ∷ []) ∷ (b ∷ d ∷ nc ∷ []) ∷ (na ∷ nb ∷ c ∷ [])
    ∷ (na ∷ nd ∷ c ∷ []) ∷ (nb ∷ nd ∷ c ∷ []) ∷ []

pub adds_full : (x y z : List (List Literal)) (a na b nb d nd s ns c nc : Literal) → na ≡ no a
    → nb ≡ no b → nd ≡ no d → ns ≡ no s → nc ≡ no c → Adds x y (of_three a na b nb d nd s ns)
    → Adds y z (of_pairs a na b nb d nd c nc) → Adds x z (full_clauses a b d s c)
adds_full x y z a na b nb d nd s ns c nc ea eb ed es ec p q =
    subst (Adds x z) (λ i. of_three a (ea i) b (eb i) d (ed i) s (es i) ++ of_pairs a (ea i) b
    (eb i) d (ed i) c (ec i))
    (adds_more x y z (of_three a na b nb d nd s ns) (of_pairs a na b nb d nd c nc) p q)

abbrev of_two : (a na b nb s ns : Literal) → List (List Literal)
of_two a na b nb s ns =
    (a ∷ b ∷ ns ∷ []) ∷ (a ∷ nb ∷ s ∷ []) ∷ (na ∷ b ∷ s ∷ []) ∷ (na ∷ nb ∷ ns ∷ []) ∷ []

abbrev of_each : (a b nc : Literal) → List (List Literal)
of_each a b nc = (a ∷ nc ∷ []) ∷ (b ∷ nc ∷ []) ∷ []

pub adds_half : (w x y z : List (List Literal)) (a na b nb s ns c nc : Literal) → na ≡ no a
    → nb ≡ no b → ns ≡ no s → nc ≡ no c → Adds w x (of_two a na b nb s ns)
    → Adds x y (of_each a b nc) → Adds y z ((na ∷ nb ∷ c ∷ []) ∷ [])
    → Adds w z (half_clauses a b s c)
adds_half w x y z a na b nb s ns c nc ea eb es ec p q r =
    subst (Adds w z) (λ i. (of_two a (ea i) b (eb i) s (es i) ++ of_each a b (ec i))
    ++ (ea i ∷ eb i ∷ c ∷ []) ∷ [])
    (adds_more w y z (of_two a na b nb s ns ++ of_each a b nc) ((na ∷ nb ∷ c ∷ []) ∷ [])
    (adds_more w x y (of_two a na b nb s ns) (of_each a b nc) p q) r)
