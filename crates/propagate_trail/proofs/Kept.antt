-- Levels that are undone, and the literals that stay.
use Rattle.std.proofs.Common.{◌≡◌, ℕ, ◌+◌, ◌<◌, ◌≤◌, true, ◌||◌, leb, List, [], ◌∷◌, ◌++◌, take}
use Rattle.std.proofs.Common.{length, get_or, Some, inl, inr, refl, sym, ◌∙◌, ap, subst, arith}
use Rattle.std.specs.Prelude.{◌==◌}
use Rattle.std.proofs.lemmas.Bool.{cases_Bool, cases_lt, leb-false, leb-true, lt-leb, or_cases}
use Rattle.std.proofs.lemmas.Bool.{false≢true, eqb-false}
use Rattle.std.proofs.lemmas.List.{map-append, length-map, get_or_append_left, take-append-drop}
use Rattle.std.proofs.lemmas.List.{take-take}
use Rattle.std.proofs.lemmas.List.Folds.{list_any_at}
use Rattle.cnf.specs.Literal.{Literal, literal_eq}
use Rattle.cnf.specs.Clause.{contains_literal}
use Rattle.cnf.proofs.Laws.{literal_eq-true, contains_front}
use Rattle.propagate_trail.specs.Trail.{Assigned, literals_of, depth_of, level_after, level_from}
use Rattle.propagate_trail.specs.Trail.{level_in, kept_from, kept_to}
use Rattle.propagate_trail.proofs.Literals.{literal_eq-self}
use Rattle.propagate_trail.proofs.Levels.{kept_all, depth_step}

pub contains_take : (l : Literal) (m : ℕ) (A : List Literal) → contains_literal l (take m A) ≡ true
    → contains_literal l A ≡ true
contains_take l m A h =
    subst (λ X. contains_literal l X ≡ true) (take-append-drop m A)
    (contains_front l (take m A) _ h)

pub contains_take_more : (l : Literal) (m n : ℕ) (A : List Literal) → m ≤ n
    → contains_literal l (take m A) ≡ true → contains_literal l (take n A) ≡ true
contains_take_more l m n A le h =
    contains_take l m (take n A)
    (subst (λ X. contains_literal l X ≡ true) (sym (take-take m n A le)) h)

pub contains_at : (A : List Literal) (i : ℕ) (d : Literal) → i < length A
    → contains_literal (get_or A i d) A ≡ true
contains_at A i d lt =
    list_any_at (literal_eq (get_or A i d)) A i d lt (literal_eq-self (get_or A i d))

pub literals-append : (T U : List Assigned) → literals_of (T ++ U) ≡ literals_of T ++ literals_of U
literals-append T U = map-append (λ (a : Assigned). a.literal) T U

pub kept_prefix_from : (n to : ℕ) (T : List Assigned) → (rest : List Assigned)
    × (T ≡ kept_from n to T ++ rest)
kept_prefix_from n to [] = ([], refl)
kept_prefix_from n to (a ∷ T) = elim (cases_Bool (leb (level_after n a) to)) [
  | inl e ↦ let w = kept_prefix_from (level_after n a) to T in (w.0, rw e (ap (λ x. a ∷ x) w.1))
  | inr e ↦ (a ∷ T, rw e refl)
]

pub kept_prefix : (to : ℕ) (T : List Assigned) → (rest : List Assigned) × (T ≡ kept_to to T ++ rest)
kept_prefix to T = kept_prefix_from 0 to T

kept_low_from : (n to : ℕ) (T : List Assigned) → n ≤ to → n + depth_of (kept_from n to T) ≤ to
kept_low_from n to [] h = omega arith
kept_low_from n to (a ∷ T) h = elim (cases_Bool (leb (level_after n a) to)) [
  | inl e ↦ rw e (omega (
    arith,
    depth_step n a (kept_from (level_after n a) to T),
    kept_low_from (level_after n a) to T (leb-true (level_after n a) to e),
  ))
  | inr e ↦ rw e (omega arith)
]

pub kept_low : (to : ℕ) (T : List Assigned) → depth_of (kept_to to T) ≤ to
kept_low to T = omega (arith, kept_low_from 0 to T (omega arith))

kept_kept_from : (k m n : ℕ) (T : List Assigned) → m ≤ n
    → kept_from k m (kept_from k n T) ≡ kept_from k m T
kept_kept_from k m n [] h = refl
kept_kept_from k m n (a ∷ T) h = elim (cases_Bool (leb (level_after k a) n)) [
  | inl e ↦ rw e (elim (cases_Bool (leb (level_after k a) m)) [
    | inl f ↦ rw f (ap (λ x. a ∷ x) (kept_kept_from (level_after k a) m n T h))
    | inr f ↦ rw f refl
  ])
  | inr e ↦ rw (
    e,
    lt-leb (level_after k a) m (let g = leb-false (level_after k a) n e in
        omega arith),
  ) refl
]

pub kept_kept : (m n : ℕ) (T : List Assigned) → m ≤ n → kept_to m (kept_to n T) ≡ kept_to m T
kept_kept m n T h = kept_kept_from 0 m n T h

pub kept_above : (m n : ℕ) (T : List Assigned) → n ≤ m → kept_to m (kept_to n T) ≡ kept_to n T
kept_above m n T h = kept_all m (kept_to n T) (omega (arith, kept_low n T))

-- the level of a literal that is kept
in_kept_from : (n to : ℕ) (T : List Assigned) (k : Literal)
    → contains_literal k (literals_of (kept_from n to T)) ≡ true
    → (m : ℕ) × (level_from n T k.variable ≡ Some m) × (m ≤ to)
in_kept_from n to [] k h = absurd (false≢true h)
in_kept_from n to (a ∷ T) k h = elim (cases_Bool (leb (level_after n a) to)) [
  | inr e ↦ absurd (false≢true (rw e at h))
  | inl e ↦
      let h' : (literal_eq k a.literal || contains_literal k
      (literals_of (kept_from (level_after n a) to T))) ≡ true = rw e at h in
      elim (cases_Bool (a.literal.variable == k.variable)) [
        | inl same ↦ (level_after n a, rw same refl, leb-true (level_after n a) to e)
        | inr other ↦
            elim (or_cases (literal_eq k a.literal)
            (contains_literal k (literals_of (kept_from (level_after n a) to T))) h') [
              | inl g ↦ absurd (eqb-false a.literal.variable k.variable other
                  (sym (ap (λ (x : Literal). x.variable) (literal_eq-true k a.literal g))))
              | inr g ↦ let w = in_kept_from (level_after n a) to T k g in (w.0, rw other w.1, w.2)
            ]
      ]
]

pub in_kept : (to : ℕ) (T : List Assigned) (k : Literal) (m : ℕ)
    → contains_literal k (literals_of (kept_to to T)) ≡ true → level_in T k.variable ≡ Some m
    → m ≤ to
in_kept to T k m h e = let w = in_kept_from 0 to T k h in let s : w.0 ≡ m = cc (w.1, e) in
    omega (arith, w.2)

-- a place of the current level is past what the levels below keep
pub past_kept : (to : ℕ) (T : List Assigned) (s : ℕ) (d : Literal) → s < length T
    → level_in T (get_or (literals_of T) s d).variable ≡ Some (depth_of T) → to < depth_of T
    → length (kept_to to T) ≤ s
past_kept to T s d lt e below = elim (cases_lt s (length (kept_to to T))) [
  | inr le ↦ le
  | inl kept ↦
      let w = kept_prefix to T in
      let K = literals_of (kept_to to T) in
      let l = get_or (literals_of T) s d in
      let lk : s < length K =
      omega (arith, length-map (kept_to to T) (λ (a : Assigned). a.literal)) in
      let same : l ≡ get_or K s d = ap (λ X. get_or (literals_of X) s d) w.1
      ∙ ap (λ X. get_or X s d) (literals-append (kept_to to T) w.0)
      ∙ get_or_append_left K (literals_of w.0) d s lk in
      let member : contains_literal l K ≡ true = ap (λ x. contains_literal x K) same
      ∙ contains_at K s d lk in
      absurd (omega (arith, in_kept to T l (depth_of T) member e))
]
