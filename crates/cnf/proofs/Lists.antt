-- What holds of each element of a list.
use Rattle.std.proofs.Common.{◌≡◌, ℕ, zero, suc, ◌<◌, ◌≤◌, List, [], ◌∷◌, ◌++◌, map, sym, arith}
use Rattle.std.specs.List.{AllByRecursion, Contains}
use Rattle.cnf.specs.Literal.{Literal}
use Rattle.cnf.specs.Clause.{AreBelow}

pub all_weaker : {X : Type 0} (P Q : X → Type 0) (xs : List X) → ((x : X) → P x → Q x)
    → AllByRecursion P xs → AllByRecursion Q xs
all_weaker P Q [] f h = tt
all_weaker P Q (x ∷ xs) f h = (f x h.0, all_weaker P Q xs f h.1)

pub below_more : (n m : ℕ) (c : List Literal) → n ≤ m → AreBelow n c → AreBelow m c
below_more n m c le h = all_weaker (λ l. l.variable < n) (λ l. l.variable < m) c
    (λ l lt. omega (arith, le, lt)) h

pub all_both : {X : Type 0} (P Q : X → Type 0) (xs : List X) → AllByRecursion P xs
    → AllByRecursion Q xs → AllByRecursion (λ x. P x × Q x) xs
all_both P Q [] h g = tt
all_both P Q (x ∷ xs) h g = ((h.0, g.0), all_both P Q xs h.1 g.1)

pub all_mapped : {X Y : Type 0} (P : Y → Type 0) (f : X → Y) (xs : List X)
    → AllByRecursion (λ x. P (f x)) xs → AllByRecursion P (map f xs)
all_mapped P f [] h = tt
all_mapped P f (x ∷ xs) h = (h.0, all_mapped P f xs h.1)

-- a list of one number
pub contains_one : (i j : ℕ) → Contains (i ∷ []) j → j ≡ i
contains_one i j (zero, h, e) = sym e
contains_one i j (suc k, h, e) = absurd (omega arith)

-- two lists, one behind the other
pub all_append : {X : Type 0} (P : X → Type 0) (xs ys : List X) → AllByRecursion P xs
    → AllByRecursion P ys → AllByRecursion P (xs ++ ys)
all_append P [] ys h g = g
all_append P (x ∷ xs) ys h g = (h.0, all_append P xs ys h.1 g)

pub all_push : {X : Type 0} (P : X → Type 0) (xs : List X) (x : X) → AllByRecursion P xs → P x
    → AllByRecursion P (xs ++ x ∷ [])
all_push P xs x h p = all_append P xs (x ∷ []) h (p, tt)

pub all_parts : {X : Type 0} (P : X → Type 0) (xs ys : List X) → AllByRecursion P (xs ++ ys)
    → AllByRecursion P xs × AllByRecursion P ys
all_parts P [] ys h = (tt, h)
all_parts P (x ∷ xs) ys h =
    let r = all_parts P xs ys h.1 in
    ((h.0, r.0), r.1)

pub all_left : {X : Type 0} (P : X → Type 0) (xs ys : List X) → AllByRecursion P (xs ++ ys)
    → AllByRecursion P xs
all_left P xs ys h = (all_parts P xs ys h).0

pub all_right : {X : Type 0} (P : X → Type 0) (xs ys : List X) → AllByRecursion P (xs ++ ys)
    → AllByRecursion P ys
all_right P xs ys h = (all_parts P xs ys h).1
