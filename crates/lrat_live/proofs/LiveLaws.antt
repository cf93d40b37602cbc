-- The near clauses before and behind the far ones: what is found under an id, and what a deletion
-- leaves.
use Rattle.std.proofs.Common.{◌≡◌, ℕ, ◌<◌, true, false, not, List, [], ◌∷◌, ◌++◌}
use Rattle.std.proofs.Common.{Option, Some, None, refl, sym, ◌∙◌, ap, subst, arith, inl, inr, ◌⊎◌}
use Rattle.std.specs.Prelude.{All, IsSome, ◌==◌}
use Rattle.std.proofs.Math.Bool.{cond}
use Rattle.std.specs.List.{AllByRecursion}
use Rattle.std.proofs.lemmas.Bool.{cases_eq}
use Rattle.std.proofs.lemmas.List.Elements.{All-nil, All-cons, All-head, All-tail}
use Rattle.cnf.specs.Literal.{Literal}
use Rattle.lrat_live.specs.Listed.{Listed, ids_of, listed_at, without_id, IsRising}
use Rattle.lrat_live.proofs.Listed.{Rises, listed_here, listed_there, rises_from}
use Rattle.lrat_live.proofs.Listed.{increasing_from_rises}
use Rattle.lrat_live.specs.Near.{NearParts, all_of}
use Rattle.std.proofs.lemmas.List.{append-nil}

pub listed_first : (xs ys : Listed) (i : ℕ) (c : List Literal) → listed_at xs i ≡ Some c
    → listed_at (xs ++ ys) i ≡ Some c
listed_first [] ys i c e = absurd (cc)
listed_first (x ∷ xs) ys i c e =
    elim (cases_eq x.0 i) [
      | inl t ↦ listed_here x (xs ++ ys) i t ∙ sym (listed_here x xs i t) ∙ e
      | inr f ↦ listed_there x (xs ++ ys) i f
          ∙ listed_first xs ys i c (sym (listed_there x xs i f) ∙ e)
    ]

pub listed_second : (xs ys : Listed) (i : ℕ) → listed_at xs i ≡ None
    → listed_at (xs ++ ys) i ≡ listed_at ys i
listed_second [] ys i e = refl
listed_second (x ∷ xs) ys i e =
    elim (cases_eq x.0 i) [
      | inl t ↦ (let found : Some x.1 ≡ None = sym (listed_here x xs i t) ∙ e in absurd (cc))
      | inr f ↦ listed_there x (xs ++ ys) i f
          ∙ listed_second xs ys i (sym (listed_there x xs i f) ∙ e)
    ]

pub without-append : (i : ℕ) (xs ys : Listed)
    → without_id i (xs ++ ys) ≡ without_id i xs ++ without_id i ys
without-append i [] ys = refl
without-append i (x ∷ xs) ys =
    elim (not (x.0 == i)) as (λ v. cond v (x ∷ without_id i (xs ++ ys)) (without_id i (xs ++ ys))
    ≡ cond v (x ∷ without_id i xs) (without_id i xs) ++ without_id i ys) [
      | true ↦ ap (λ es. x ∷ es) (without-append i xs ys)
      | false ↦ without-append i xs ys
    ]

above_none : (i : ℕ) (es : Listed) → AllByRecursion (λ y. i < y) (ids_of es) → listed_at es i ≡ None
above_none i [] a = refl
above_none i (e ∷ es) a = listed_there e es i (λ z. absurd (omega (arith, a.0)))
    ∙ above_none i es a.1

above_second : (i : ℕ) (xs ys : Listed) → AllByRecursion (λ y. i < y) (ids_of (xs ++ ys))
    → AllByRecursion (λ y. i < y) (ids_of ys)
above_second i [] ys a = a
above_second i (x ∷ xs) ys a = above_second i xs ys a.1

-- an id stands in one of two lists
once : (xs ys : Listed) (i : ℕ) (c : List Literal) → Rises (ids_of (xs ++ ys))
    → listed_at xs i ≡ Some c → listed_at ys i ≡ None
once [] ys i c r e = absurd (cc)
once (x ∷ xs) ys i c r e =
    elim (cases_eq x.0 i) [
      | inl t ↦ above_none i ys (subst (λ m. AllByRecursion (λ y. m < y) (ids_of ys)) t
          (above_second x.0 xs ys r.0))
      | inr f ↦ once xs ys i c r.1 (sym (listed_there x xs i f) ∙ e)
    ]

rises_second : (xs ys : Listed) → Rises (ids_of (xs ++ ys)) → Rises (ids_of ys)
rises_second [] ys r = r
rises_second (x ∷ xs) ys r = rises_second xs ys r.1

pub rising_second : (xs ys : Listed) → IsRising (xs ++ ys) → IsRising ys
rising_second xs ys r =
    increasing_from_rises (ids_of ys) (rises_second xs ys (rises_from (xs ++ ys) r))

pub cases_listed : (o : Option (List Literal)) → (o ≡ None) ⊎ ((c : List Literal) × (o ≡ Some c))
cases_listed None = inl refl
cases_listed (Some c) = inr (c, refl)

pub none_first : (xs ys : Listed) (i : ℕ) → listed_at (xs ++ ys) i ≡ None → listed_at xs i ≡ None
none_first xs ys i e =
    elim (cases_listed (listed_at xs i)) [
      | inl n ↦ n
      | inr (c, s) ↦ (let found = listed_first xs ys i c s in absurd (cc))
    ]

-- near ones on both sides of far ones
pub far_none : (xs ys zs : Listed) (i : ℕ) (c : List Literal) → Rises (ids_of (xs ++ (ys ++ zs)))
    → listed_at (xs ++ zs) i ≡ Some c → listed_at ys i ≡ None
far_none xs ys zs i c r e =
    elim (cases_listed (listed_at xs i)) [
      | inr (d, s) ↦ none_first ys zs i (once xs (ys ++ zs) i d r s)
      | inl n ↦ elim (cases_listed (listed_at ys i)) [
        | inl m ↦ m
        | inr (d, s) ↦
            let later : listed_at zs i ≡ Some c = sym (listed_second xs zs i n) ∙ e in
            let none : listed_at zs i ≡ None =
            once ys zs i d (rises_second xs (ys ++ zs) r) s in
            absurd (cc)
      ]
    ]

pub near_found : (xs ys zs : Listed) (i : ℕ) (c : List Literal) → Rises (ids_of (xs ++ (ys ++ zs)))
    → listed_at (xs ++ zs) i ≡ Some c → listed_at (xs ++ (ys ++ zs)) i ≡ Some c
near_found xs ys zs i c r e =
    let far : listed_at ys i ≡ None = far_none xs ys zs i c r e in
    elim (cases_listed (listed_at xs i)) [
      | inr (d, s) ↦ listed_first xs (ys ++ zs) i d s ∙ sym (listed_first xs zs i d s) ∙ e
      | inl n ↦ listed_second xs (ys ++ zs) i n ∙ listed_second ys zs i far
          ∙ sym (listed_second xs zs i n) ∙ e
    ]

pub far_found : (xs ys zs : Listed) (i : ℕ) → listed_at (xs ++ zs) i ≡ None
    → listed_at (xs ++ (ys ++ zs)) i ≡ listed_at ys i
far_found xs ys zs i e =
    let n : listed_at xs i ≡ None = none_first xs zs i e in
    let m : listed_at zs i ≡ None = sym (listed_second xs zs i n) ∙ e in
    listed_second xs (ys ++ zs) i n ∙ elim (cases_listed (listed_at ys i)) [
      | inl k ↦ listed_second ys zs i k ∙ m ∙ sym k
      | inr (d, s) ↦ listed_first ys zs i d s ∙ sym s
    ]

pub near_left : (i : ℕ) (xs ys zs : Listed) → without_id i ys ≡ ys
    → without_id i xs ++ (ys ++ without_id i zs) ≡ without_id i (xs ++ (ys ++ zs))
near_left i xs ys zs e =
    sym (without-append i xs (ys ++ zs) ∙ ap (λ es. without_id i xs ++ es)
    (without-append i ys zs ∙ ap (λ es. es ++ without_id i zs) e))

pub far_left : (i : ℕ) (xs ys zs : Listed)
    → without_id i xs ++ (without_id i ys ++ without_id i zs) ≡ without_id i (xs ++ (ys ++ zs))
far_left i xs ys zs =
    sym (without-append i xs (ys ++ zs) ∙ ap (λ es. without_id i xs ++ es)
    (without-append i ys zs))

pub all_second : (P : ℕ × List Literal → Type 0) (xs ys : Listed) → All P (xs ++ ys) → All P ys
all_second P [] ys a = a
all_second P (x ∷ xs) ys a = all_second P xs ys (All-tail P x (xs ++ ys) a)

pub all_front : (P : ℕ × List Literal → Type 0) (xs ys : Listed) → All P (xs ++ ys) → All P xs
all_front P [] ys a = All-nil P
all_front P (x ∷ xs) ys a =
    All-cons P x xs (All-head P x (xs ++ ys) a) (all_front P xs ys (All-tail P x (xs ++ ys) a))

pub none_of : (o : Option (List Literal)) → (IsSome o → ⊥) → o ≡ None
none_of None h = refl
none_of (Some c) h = absurd (h refl)

pub none_second : (xs ys : Listed) (i : ℕ) → listed_at (xs ++ ys) i ≡ None → listed_at ys i ≡ None
none_second xs ys i e = sym (listed_second xs ys i (none_first xs ys i e)) ∙ e

pub all_far_left : (n m : NearParts) (far now : Listed) (i : ℕ) → m.given ≡ without_id i n.given
    → now ≡ without_id i far → m.recent ≡ without_id i n.recent
    → all_of m now ≡ without_id i (all_of n far)
all_far_left n m far now i a b c =
    ap (λ x. x ++ (now ++ m.recent)) a ∙ ap (λ x. without_id i n.given ++ (x ++ m.recent)) b
    ∙ ap (λ x. without_id i n.given ++ (without_id i far ++ x)) c
    ∙ far_left i n.given far n.recent

pub all_first : (m : NearParts) (now all : Listed) → m.given ≡ all → now ≡ [] → m.recent ≡ []
    → all_of m now ≡ all
all_first m now all a b c =
    ap (λ x. x ++ (now ++ m.recent)) a ∙ ap (λ x. all ++ (x ++ m.recent)) b
    ∙ ap (λ x. all ++ x) c ∙ append-nil all
