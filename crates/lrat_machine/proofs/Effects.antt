-- What one hint does, from a pass over its clause, and the steps of a walk along hints.
use Rattle.std.proofs.Common.{◌≡◌, ℕ, ◌+◌, ◌<◌, ◌≤◌, Bool, true, false, not, List, [], ◌∷◌, ◌++◌}
use Rattle.std.proofs.Common.{map, length, get_or, take, drop, Option, Some, None, refl, sym, ◌∙◌}
use Rattle.std.proofs.Common.{ap, subst, inl, inr, arith}
use Rattle.std.proofs.Math.Bool.{cond}
use Rattle.std.specs.Prelude.{All, IfSome, ◌==◌}
use Rattle.std.proofs.lemmas.List.{append-nil, drop_more, get_or_default, take_more}
use Rattle.std.proofs.lemmas.List.{take-append-le, length-take}
use Rattle.std.specs.List.{last_or}
use Rattle.std.proofs.lemmas.Bool.{or_cases, false≢true}
use Rattle.std.proofs.lemmas.List.Elements.{All-head, All-tail}
use Rattle.cnf.specs.Literal.{Literal, negation, literal_eq}
use Rattle.cnf.specs.Clause.{contains_literal, IsClauseWithin}
use Rattle.cnf.specs.Refute.{Clauses}
use Rattle.cnf.proofs.Laws.{literal_eq-true}
use Rattle.lrat_live.specs.Listed.{listed_at}
use Rattle.lrat_machine.specs.declared.verdicts.Cause.TheVariants.{HintAfterConflict}
use Rattle.lrat_machine.specs.Verdict.{Fault, NotUnit, Conflict, Makes, HintOutcome}
use Rattle.lrat_machine.specs.Verdict.{open_literals, outcome_of, goes_on, walk}
use Rattle.lrat_machine.specs.Steps.{EndAlike}
use Rattle.lrat_machine.proofs.Walk.{outcome_on, outcome_is, makes_means}
use Rattle.lrat_machine.proofs.Members.{HaveSame-push}
use Rattle.lrat_machine.proofs.Alike.{walk-same}

open-append : (A xs ys : List Literal)
    → open_literals A (xs ++ ys) ≡ open_literals A xs ++ open_literals A ys
open-append A [] ys = refl
open-append A (x ∷ xs) ys =
    elim (not (contains_literal (negation x) A)) as (λ v. cond v (x ∷ open_literals A (xs ++ ys))
    (open_literals A (xs ++ ys)) ≡ cond v (x ∷ open_literals A xs) (open_literals A xs)
    ++ open_literals A ys) [
      | true ↦ ap (λ zs. x ∷ zs) (open-append A xs ys)
      | false ↦ open-append A xs ys
    ]

pub drop_at : {X : Type 0} (xs : List X) (i : ℕ) (x : X) → i < length xs → x ≡ get_or xs i x
    → drop i xs ≡ x ∷ drop (i + 1) xs
drop_at xs i x h e = drop_more xs i x h ∙ ap (λ y. y ∷ drop (i + 1) xs) (sym e)

-- a literal more of the clause
open_push : (A c : List Literal) (i : ℕ) (l : Literal) → i < length c → l ≡ get_or c i l
    → open_literals A (take (i + 1) c) ≡ open_literals A (take i c) ++ open_literals A (l ∷ [])
open_push A c i l h e =
    ap (open_literals A) (take_more c i l h ∙ ap (λ x. take i c ++ x ∷ []) (sym e))
    ∙ open-append A (take i c) (l ∷ [])

pub open_more : (A c : List Literal) (i : ℕ) (l : Literal) → i < length c → l ≡ get_or c i l
    → contains_literal (negation l) A ≡ false → open_literals A (take (i + 1) c) ≡ open_literals A
    (take i c) ++ l ∷ []
open_more A c i l h e f = let here : open_literals A (l ∷ []) ≡ l ∷ [] = rw f refl in
    open_push A c i l h e ∙ ap (λ zs. open_literals A (take i c) ++ zs) here

pub open_same : (A c : List Literal) (i : ℕ) (l : Literal) → i < length c → l ≡ get_or c i l
    → contains_literal (negation l) A ≡ true
    → open_literals A (take (i + 1) c) ≡ open_literals A (take i c)
open_same A c i l h e t = let here : open_literals A (l ∷ []) ≡ [] = rw t refl in
    open_push A c i l h e ∙ ap (λ zs. open_literals A (take i c) ++ zs) here
    ∙ append-nil (open_literals A (take i c))

-- the last of those that are not false, and how many there are
pub last_push : (o : Option Literal) (xs : List Literal) (l : Literal)
    → last_or o (xs ++ l ∷ []) ≡ Some l
last_push o [] l = refl
last_push o (x ∷ xs) l = last_push (Some x) xs l

none_open : (xs : List Literal) → length xs ≡ 0 → xs ≡ []
none_open [] e = refl
none_open (x ∷ xs) e = absurd (omega (arith, e))

one_last : (o : Option Literal) (xs : List Literal) (l : Literal) → length xs ≡ 1
    → Some l ≡ last_or o xs → xs ≡ l ∷ []
one_last o [] l n e = absurd (omega (arith, n))
one_last o (x ∷ []) l n e = let same : x ≡ l = cc in ap (λ y. y ∷ []) same
one_last o (x ∷ y ∷ xs) l n e = absurd (omega (arith, n))

many : (A xs : List Literal) → 1 < length xs → outcome_on A xs ≡ NotUnit
unfolding outcome_on
many A [] n = absurd (omega arith)
many A (x ∷ []) n = absurd (omega arith)
many A (x ∷ y ∷ xs) n = refl

pub conflict_open : (A c : List Literal) → length (open_literals A c) ≡ 0
    → outcome_of (Some c) A ≡ Conflict
conflict_open A c n = outcome_is c A ∙ ap (outcome_on A) (none_open (open_literals A c) n)

pub many_open : (A c : List Literal) → 1 < length (open_literals A c)
    → outcome_of (Some c) A ≡ NotUnit
many_open A c n = outcome_is c A ∙ many A (open_literals A c) n

true_one : (A : List Literal) (l : Literal) → contains_literal l A ≡ true
    → outcome_on A (l ∷ []) ≡ NotUnit
unfolding outcome_on
true_one A l t = rw t refl

makes_one : (A : List Literal) (l : Literal) → contains_literal l A ≡ false
    → outcome_on A (l ∷ []) ≡ Makes l
unfolding outcome_on
makes_one A l f = rw f refl

-- one literal is not false, and it is true
pub true_open : (A c : List Literal) (o : Option Literal) (l : Literal)
    → length (open_literals A c) ≡ 1 → Some l ≡ last_or o (open_literals A c)
    → contains_literal l A ≡ true → outcome_of (Some c) A ≡ NotUnit
true_open A c o l n e t =
    outcome_is c A ∙ ap (outcome_on A) (one_last o (open_literals A c) l n e) ∙ true_one A l t

-- one literal is not false, and it is not true
pub makes_open : (A c : List Literal) (o : Option Literal) (l : Literal)
    → length (open_literals A c) ≡ 1 → Some l ≡ last_or o (open_literals A c)
    → contains_literal l A ≡ false → outcome_of (Some c) A ≡ Makes l
makes_open A c o l n e f =
    outcome_is c A ∙ ap (outcome_on A) (one_last o (open_literals A c) l n e) ∙ makes_one A l f

-- a literal that a hint makes true
member_within : (n : ℕ) (l : Literal) (c : List Literal) → IsClauseWithin n c
    → contains_literal l c ≡ true → l.variable ≤ n
member_within n l [] w h = absurd (false≢true h)
member_within n l (k ∷ c) w h =
    elim (or_cases (literal_eq l k) (contains_literal l c) h) [
      | inl e ↦ subst (λ x. x.variable ≤ n) (sym (literal_eq-true l k e))
          (All-head (λ x. x.variable ≤ n) k c w)
      | inr e ↦ member_within n l c (All-tail (λ x. x.variable ≤ n) k c w) e
    ]

pub makes_within : (n : ℕ) (A c : List Literal) (l : Literal) → IsClauseWithin n c
    → outcome_of (Some c) A ≡ Makes l → l.variable ≤ n
makes_within n A c l w e =
    let m = makes_means (Some c) A l e in
    let found = m.1 in
    let same : m.0 ≡ c = cc in
    member_within n l c w (subst (λ d. contains_literal l d ≡ true) same m.2.member)

-- a clause of the list
pub listed_within : (n : ℕ) (es : List (ℕ × List Literal)) (i : ℕ) (c : List Literal)
    → All (λ e. IsClauseWithin n e.1) es → listed_at es i ≡ Some c → IsClauseWithin n c
listed_within n [] i c w e = absurd (cc)
listed_within n (x ∷ es) i c w e =
    elim (x.0 == i) as (λ v. cond v (Some x.1) (listed_at es i) ≡ Some c → IsClauseWithin n c) [
      | true ↦ λ e. let same : x.1 ≡ c = cc in
          subst (IsClauseWithin n) same (All-head (λ y. IsClauseWithin n y.1) x es w)
      | false ↦ λ e. listed_within n es i c (All-tail (λ y. IsClauseWithin n y.1) x es w) e
    ] e

pub found_within : (n : ℕ) (es : List (ℕ × List Literal)) (i : ℕ) (found : Option (List Literal))
    → All (λ e. IsClauseWithin n e.1) es → found ≡ listed_at es i
    → IfSome found (λ c. IsClauseWithin n c)
found_within n es i None w e = tt
found_within n es i (Some c) w e = listed_within n es i c w (sym e)

-- the ids that are left
abbrev pub ids_from : List (Bool × ℕ) → ℕ → List ℕ
ids_from hs i = map (λ h. h.1) (drop i hs)

abbrev pub id_at : List (Bool × ℕ) → ℕ → ℕ
id_at hs i = (get_or hs i (false, 0)).1

pub id_here : (hs : List (Bool × ℕ)) (i : ℕ) (h : Bool × ℕ) → i < length hs → h ≡ get_or hs i h
    → h.1 ≡ id_at hs i
id_here hs i h lt e = ap (λ x. x.1) (e ∙ sym (get_or_default hs i (false, 0) h lt))

walk_at : (at : Clauses) (T : List Literal) (hs : List (Bool × ℕ)) (i : ℕ)
    → i < length hs
    → walk at T (ids_from hs i)
    ≡ goes_on (outcome_of (at (id_at hs i)) T) (ids_from hs (i + 1))
    (λ l. walk at (l ∷ T) (ids_from hs (i + 1)))
walk_at at T hs i lt =
    ap (λ xs. walk at T (map (λ x. x.1) xs)) (drop_more hs i (false, 0) lt)

-- what the hint's clause does decides how the walk goes on
walk_does : (at : Clauses) (T : List Literal) (hs : List (Bool × ℕ)) (i : ℕ) (c : List Literal)
    (o : HintOutcome)
    → i < length hs → at (id_at hs i) ≡ Some c → outcome_of (Some c) T ≡ o
    → walk at T (ids_from hs i)
    ≡ goes_on o (ids_from hs (i + 1)) (λ l. walk at (l ∷ T) (ids_from hs (i + 1)))
walk_does at T hs i c o lt n e =
    let rest = ids_from hs (i + 1) in
    walk_at at T hs i lt
    ∙ ap (λ x. goes_on x rest (λ l. walk at (l ∷ T) rest)) (ap (λ y. outcome_of y T) n ∙ e)

pub walk_past_conflict : (at : Clauses) (T : List Literal) (hs : List (Bool × ℕ)) (i : ℕ)
    (c : List Literal)
    → i < length hs → at (id_at hs i) ≡ Some c → outcome_of (Some c) T ≡ Conflict
    → i + 1 < length hs → walk at T (ids_from hs i) ≡ Fault HintAfterConflict
walk_past_conflict at T hs i c lt n e more =
    let rest = ids_from hs (i + 1) in
    walk_does at T hs i c Conflict lt n e
    ∙ ap (λ xs. goes_on Conflict (map (λ x. x.1) xs) (λ l. walk at (l ∷ T) rest))
    (drop_more hs (i + 1) (false, 0) more)

pub walk_makes : (at : Clauses) (T : List Literal) (hs : List (Bool × ℕ)) (i : ℕ)
    (c : List Literal) (l : Literal)
    → i < length hs → at (id_at hs i) ≡ Some c → outcome_of (Some c) T ≡ Makes l
    → EndAlike (walk at T (ids_from hs i)) (walk at (T ++ l ∷ []) (ids_from hs (i + 1)))
walk_makes at T hs i c l lt n e =
    let rest = ids_from hs (i + 1) in
    subst (λ w. EndAlike w (walk at (T ++ l ∷ []) rest))
    (sym (walk_does at T hs i c (Makes l) lt n e))
    (walk-same at (l ∷ T) (T ++ l ∷ []) (HaveSame-push l T) rest)

-- what stood before stays
pub kept_push : (A T : List Literal) (l : Literal) → take (length A) T ≡ A
    → take (length A) (T ++ l ∷ []) ≡ A
kept_push A T l e =
    let long : length (take (length A) T) ≡ length A = ap length e in
    let le : length A ≤ length T = omega (arith, length-take (length A) T) in
    take-append-le (length A) T (l ∷ []) le ∙ e
