-- Two lists that are read side by side: where one place is read or set, and where both grow or are
-- cut.
use Rattle.std.proofs.Common.{◌≡◌, ℕ, zero, suc, ◌<◌, List, [], ◌∷◌, ◌++◌, length, get_or, map, set}
use Rattle.std.proofs.Common.{take, replicate, Some, refl, ◌∙◌, ap, arith}
use Rattle.std.specs.Prelude.{slice_get}
use Rattle.clauses.specs.Zipped.{zipped}

pub length-zipped : {X Y Z : Type 0} (f : X → Y → Z) (xs : List X) (ys : List Y)
    → length ys ≡ length xs → length (zipped f xs ys) ≡ length xs
length-zipped f [] ys e = refl
length-zipped f (x ∷ xs) [] e = absurd (omega arith)
length-zipped f (x ∷ xs) (y ∷ ys) e = omega (arith, length-zipped f xs ys (omega arith))

-- a side that can be read back
pub firsts-zipped : {X Y Z : Type 0} (f : X → Y → Z) (g : Z → X) → ((x : X) (y : Y) → g (f x y) ≡ x)
    → (xs : List X) (ys : List Y) → length ys ≡ length xs → map g (zipped f xs ys) ≡ xs
firsts-zipped f g h [] ys e = refl
firsts-zipped f g h (x ∷ xs) [] e = absurd (omega arith)
firsts-zipped f g h (x ∷ xs) (y ∷ ys) e = ap (λ z. z ∷ map g (zipped f xs ys)) (h x y)
    ∙ ap (λ zs. x ∷ zs) (firsts-zipped f g h xs ys (omega arith))

pub seconds-zipped : {X Y Z : Type 0} (f : X → Y → Z) (g : Z → Y)
    → ((x : X) (y : Y) → g (f x y) ≡ y) → (xs : List X) (ys : List Y) → length ys ≡ length xs
    → map g (zipped f xs ys) ≡ ys
seconds-zipped f g h [] [] e = refl
seconds-zipped f g h [] (y ∷ ys) e = absurd (omega arith)
seconds-zipped f g h (x ∷ xs) [] e = absurd (omega arith)
seconds-zipped f g h (x ∷ xs) (y ∷ ys) e = ap (λ z. z ∷ map g (zipped f xs ys)) (h x y)
    ∙ ap (λ zs. y ∷ zs) (seconds-zipped f g h xs ys (omega arith))

pub get_or-zipped : {X Y Z : Type 0} (f : X → Y → Z) (xs : List X) (ys : List Y) (i : ℕ) (d : Z)
    (x : X) (y : Y) → length ys ≡ length xs → i < length xs
    → get_or (zipped f xs ys) i d ≡ f (get_or xs i x) (get_or ys i y)
get_or-zipped f [] ys i d x y e l = absurd (omega arith)
get_or-zipped f (a ∷ xs) [] i d x y e l = absurd (omega arith)
get_or-zipped f (a ∷ xs) (b ∷ ys) zero d x y e l = refl
get_or-zipped f (a ∷ xs) (b ∷ ys) (suc i) d x y e l =
    get_or-zipped f xs ys i d x y (omega arith) (omega arith)

pub zipped-append : {X Y Z : Type 0} (f : X → Y → Z) (xs more : List X) (ys others : List Y)
    → length ys ≡ length xs → zipped f (xs ++ more) (ys ++ others) ≡ zipped f xs ys
    ++ zipped f more others
zipped-append f [] more [] others e = refl
zipped-append f [] more (y ∷ ys) others e = absurd (omega arith)
zipped-append f (x ∷ xs) more [] others e = absurd (omega arith)
zipped-append f (x ∷ xs) more (y ∷ ys) others e =
    ap (λ zs. f x y ∷ zs) (zipped-append f xs more ys others (omega arith))

pub zipped-set : {X Y Z : Type 0} (f : X → Y → Z) (xs : List X) (ys : List Y) (i : ℕ) (x : X)
    (y : Y) → zipped f (set xs i x) (set ys i y) ≡ set (zipped f xs ys) i (f x y)
zipped-set f [] ys i x y = refl
zipped-set f (a ∷ xs) [] zero x y = refl
zipped-set f (a ∷ xs) [] (suc i) x y = refl
zipped-set f (a ∷ xs) (b ∷ ys) zero x y = refl
zipped-set f (a ∷ xs) (b ∷ ys) (suc i) x y = ap (λ zs. f a b ∷ zs) (zipped-set f xs ys i x y)

-- one side alone is set, where the other makes no difference
pub zipped-set_first : {X Y Z : Type 0} (f : X → Y → Z) (xs : List X) (ys : List Y) (i : ℕ) (x : X)
    (z : Z) → ((y : Y) → f x y ≡ z) → zipped f (set xs i x) ys ≡ set (zipped f xs ys) i z
zipped-set_first f [] ys i x z h = refl
zipped-set_first f (a ∷ xs) [] zero x z h = refl
zipped-set_first f (a ∷ xs) [] (suc i) x z h = refl
zipped-set_first f (a ∷ xs) (b ∷ ys) zero x z h = ap (λ c. c ∷ zipped f xs ys) (h b)
zipped-set_first f (a ∷ xs) (b ∷ ys) (suc i) x z h =
    ap (λ zs. f a b ∷ zs) (zipped-set_first f xs ys i x z h)

-- one side alone is set, which changes what stands there by `g`
pub zipped-set_second : {X Y Z : Type 0} (f : X → Y → Z) (g : Z → Z) (xs : List X) (ys : List Y)
    (i : ℕ) (y : Y) (z : Z) → ((x : X) (b : Y) → f x y ≡ g (f x b))
    → slice_get (zipped f xs ys) i ≡ Some z
    → zipped f xs (set ys i y) ≡ set (zipped f xs ys) i (g z)
zipped-set_second f g [] ys i y z h e = refl
zipped-set_second f g (a ∷ xs) [] i y z h e = refl
zipped-set_second f g (a ∷ xs) (b ∷ ys) zero y z h e = let same : f a b ≡ z = cc in
    ap (λ c. c ∷ zipped f xs ys) (h a b ∙ ap g same)
zipped-set_second f g (a ∷ xs) (b ∷ ys) (suc i) y z h e =
    ap (λ zs. f a b ∷ zs) (zipped-set_second f g xs ys i y z h e)

pub zipped-take : {X Y Z : Type 0} (f : X → Y → Z) (n : ℕ) (xs : List X) (ys : List Y)
    → zipped f (take n xs) (take n ys) ≡ take n (zipped f xs ys)
zipped-take f zero xs ys = refl
zipped-take f (suc n) [] ys = refl
zipped-take f (suc n) (x ∷ xs) [] = refl
zipped-take f (suc n) (x ∷ xs) (y ∷ ys) = ap (λ zs. f x y ∷ zs) (zipped-take f n xs ys)

pub zipped-replicate : {X Y Z : Type 0} (f : X → Y → Z) (n : ℕ) (x : X) (y : Y)
    → zipped f (replicate n x) (replicate n y) ≡ replicate n (f x y)
zipped-replicate f zero x y = refl
zipped-replicate f (suc n) x y = ap (λ zs. f x y ∷ zs) (zipped-replicate f n x y)
