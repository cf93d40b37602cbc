-- The candidates of a RAT line: the ids in rising order, against all live clauses with the literal.
use Rattle.std.proofs.Common.{◌≡◌, ℕ, zero, suc, ◌+◌, ◌<◌, ◌≤◌, true, false, List, [], ◌∷◌, ◌++◌}
use Rattle.std.proofs.Common.{get_or, Option, Some, None, ◌⊎◌, inl, inr, refl, sym, ◌∙◌, ap, subst}
use Rattle.std.proofs.Common.{arith, append-nil}
use Rattle.std.specs.Prelude.{◌↔◌, Contains, nat_eq}
use Rattle.std.specs.List.{AllByRecursion, list_any, AllPairs}
use Rattle.std.specs.List.Sorted.{IsStrictlyIncreasing}
use Rattle.std.proofs.lemmas.Bool.{and_from, and_parts, or_cases, or_left, or_right, cases_Bool}
use Rattle.std.proofs.lemmas.Bool.{both_ways, eq-eqb, eqb-true, eqb-false, cases_lt, false≢true}
use Rattle.std.proofs.lemmas.List.Elements.{Contains-get_or}
use Rattle.std.proofs.lemmas.List.Kept.{AllPairs-from_increasing}
use Rattle.std.proofs.lemmas.List.Quantifiers.{all_pairs_push}
use Rattle.std.proofs.lemmas.List.Folds.{list_any-append}
use Rattle.cnf.specs.Literal.{Literal}
use Rattle.cnf.specs.Clause.{contains_literal}
use Rattle.cnf.specs.Refute.{Clauses}
use Rattle.lrat_live.specs.Listed.{same_ids}
use Rattle.lrat_live.proofs.Laws.{Rises, rises_from_pairs}
use Rattle.lrat_machine.specs.Verdict.{ids_with}

-- membership, as a test
abbrev pub Has : List ℕ → ℕ → Type 0
Has xs i = list_any (nat_eq i) xs ≡ true

pub Has-from_Contains : (xs : List ℕ) (i : ℕ) → Contains xs i → Has xs i
Has-from_Contains [] i (k, h, e) = absurd (omega arith)
Has-from_Contains (x ∷ xs) i (zero, h, e) = or_left _ _ (eq-eqb i x (sym e))
Has-from_Contains (x ∷ xs) i (suc k, h, e) =
    or_right _ _ (Has-from_Contains xs i (k, omega arith, e))

pub Contains-from_Has : (xs : List ℕ) (i : ℕ) → Has xs i → Contains xs i
Contains-from_Has [] i e = absurd (false≢true e)
Contains-from_Has (x ∷ xs) i e =
    elim (or_cases (nat_eq i x) (list_any (nat_eq i) xs) e) [
      | inl h ↦ (0, omega arith, sym (eqb-true i x h))
      | inr h ↦ let r = Contains-from_Has xs i h in (suc r.0, omega arith, r.2)
    ]

pub above : (x i : ℕ) (xs : List ℕ) → AllByRecursion (λ y. x < y) xs → Has xs i → x < i
above x i [] a e = absurd (false≢true e)
above x i (y ∷ xs) a e =
    elim (or_cases (nat_eq i y) (list_any (nat_eq i) xs) e) [
      | inl h ↦ subst (λ z. x < z) (sym (eqb-true i y h)) a.0
      | inr h ↦ above x i xs a.1 h
    ]

-- two rising lists with the same members are equal
tails_in : (x y : ℕ) (xs ys : List ℕ) → x ≡ y → AllByRecursion (λ z. x < z) xs
    → ((i : ℕ) → Has (x ∷ xs) i → Has (y ∷ ys) i) → (i : ℕ) → Has xs i → Has ys i
tails_in x y xs ys same a f i h =
    elim (or_cases (nat_eq i y) (list_any (nat_eq i) ys) (f i (or_right _ _ h))) [
      | inl e ↦ let z : i ≡ y = eqb-true i y e in let b : x < i = above x i xs a h in
          absurd (omega arith)
      | inr e ↦ e
    ]

first_le : (x y : ℕ) (ys : List ℕ) → AllByRecursion (λ z. y < z) ys → Has (y ∷ ys) x → y ≤ x
first_le x y ys a h =
    elim (or_cases (nat_eq x y) (list_any (nat_eq x) ys) h) [
      | inl e ↦ let z : x ≡ y = eqb-true x y e in omega arith
      | inr e ↦ let b : y < x = above y x ys a e in omega arith
    ]

pub same_rising : (xs ys : List ℕ) → Rises xs → Rises ys → ((i : ℕ) → Has xs i → Has ys i)
    → ((i : ℕ) → Has ys i → Has xs i) → xs ≡ ys
same_rising [] [] a b f g = refl
same_rising [] (y ∷ ys) a b f g = absurd (false≢true (g y (or_left _ _ (eq-eqb y y refl))))
same_rising (x ∷ xs) [] a b f g = absurd (false≢true (f x (or_left _ _ (eq-eqb x x refl))))
same_rising (x ∷ xs) (y ∷ ys) a b f g =
    let up : y ≤ x = first_le x y ys b.0 (f x (or_left _ _ (eq-eqb x x refl))) in
    let down : x ≤ y = first_le y x xs a.0 (g y (or_left _ _ (eq-eqb y y refl))) in
    let same : x ≡ y = omega arith in
    ap (λ z. z ∷ xs) same
    ∙ ap (λ zs. y ∷ zs) (same_rising xs ys a.1 b.1 (tails_in x y xs ys same a.0 f)
    (tails_in y x ys xs (sym same) b.0 g))

same_ids-true : (xs ys : List ℕ) → same_ids xs ys ≡ true → xs ≡ ys
same_ids-true [] [] e = refl
same_ids-true [] (y ∷ ys) e = absurd (false≢true e)
same_ids-true (x ∷ xs) [] e = absurd (false≢true e)
same_ids-true (x ∷ xs) (y ∷ ys) e =
    let h = and_parts (nat_eq x y) (same_ids xs ys) e in
    ap (λ z. z ∷ xs) (eqb-true x y h.0) ∙ ap (λ zs. y ∷ zs) (same_ids-true xs ys h.1)

same_ids-refl : (xs : List ℕ) → same_ids xs xs ≡ true
same_ids-refl [] = refl
same_ids-refl (x ∷ xs) = and_from _ _ (eq-eqb x x refl) (same_ids-refl xs)

-- the clause of this id is live and has the literal
abbrev pub HasLiteral : Clauses → Literal → ℕ → Type 0
HasLiteral at l i = (d : List Literal) × (at i ≡ Some d) × (contains_literal l d ≡ true)

has_literal_cases : (at : Clauses) (l : Literal) (i : ℕ)
    → HasLiteral at l i ⊎ (HasLiteral at l i → ⊥)
has_literal_cases at l i = by (at i) refl
  where
    by : (o : Option (List Literal)) → at i ≡ o → HasLiteral at l i ⊎ (HasLiteral at l i → ⊥)
    by None e = inr (λ h. let z = h.1 in cc)
    by (Some d) e = elim (cases_Bool (contains_literal l d)) [
      | inl t ↦ inl (d, e, t)
      | inr f ↦ inr (λ h. let z = h.1 in let same : h.0 ≡ d = cc in
          both_ways _ f (subst (λ x. contains_literal l x ≡ true) same h.2))
    ]

ids_yes : (at : Clauses) (l : Literal) (n : ℕ) → HasLiteral at l (suc n)
    → ids_with at l (suc n) ≡ ids_with at l n ++ suc n ∷ []
ids_yes at l n (d, e, t) = rw (e, t) refl

ids_no : (at : Clauses) (l : Literal) (n : ℕ) → (HasLiteral at l (suc n) → ⊥)
    → ids_with at l (suc n) ≡ ids_with at l n
ids_no at l n non = by (at (suc n)) refl
  where
    by : (o : Option (List Literal)) → at (suc n) ≡ o → ids_with at l (suc n) ≡ ids_with at l n
    by None e = rw e (append-nil _)
    by (Some d) e = elim (cases_Bool (contains_literal l d)) [
      | inl t ↦ absurd (non (d, e, t))
      | inr f ↦ rw (e, f) (append-nil _)
    ]

pub ids_bound : (at : Clauses) (l : Literal) (n i : ℕ) → Has (ids_with at l n) i
    → (i ≤ n) × HasLiteral at l i
ids_bound at l zero i h = absurd (false≢true h)
ids_bound at l (suc n) i h =
    elim (has_literal_cases at l (suc n)) [
      | inl y ↦ elim (or_cases (list_any (nat_eq i) (ids_with at l n))
          (list_any (nat_eq i) (suc n ∷ []))
          (sym (list_any-append (nat_eq i) (ids_with at l n) (suc n ∷ []))
          ∙ subst (λ xs. Has xs i) (ids_yes at l n y) h)) [
            | inl b ↦ let r = ids_bound at l n i b in (omega arith, r.1)
            | inr b ↦ elim (or_cases (nat_eq i (suc n)) false b) [
              | inl s ↦ let same : i ≡ suc n = eqb-true i (suc n) s in
                  (omega arith, subst (HasLiteral at l) (sym same) y)
              | inr s ↦ absurd (false≢true s)
            ]
          ]
      | inr non ↦ let r = ids_bound at l n i (subst (λ xs. Has xs i) (ids_no at l n non) h) in
          (omega arith, r.1)
    ]

pub ids_all : (at : Clauses) (l : Literal) (n i : ℕ) → 0 < i → i ≤ n → HasLiteral at l i
    → Has (ids_with at l n) i
ids_all at l zero i p q h = absurd (omega arith)
ids_all at l (suc n) i p q h =
    elim (cases_Bool (nat_eq i (suc n))) [
      | inl t ↦
          let same : i ≡ suc n = eqb-true i (suc n) t in
          subst (λ xs. Has xs i) (sym (ids_yes at l n (subst (HasLiteral at l) same h)))
          (list_any-append (nat_eq i) (ids_with at l n) (suc n ∷ []) ∙ or_right _ _ (or_left _ _ t))
      | inr f ↦
          let ne : i ≡ suc n → ⊥ = eqb-false i (suc n) f in
          let old = ids_all at l n i p (omega arith) h in
          elim (has_literal_cases at l (suc n)) [
            | inl y ↦ subst (λ xs. Has xs i) (sym (ids_yes at l n y))
                (list_any-append (nat_eq i) (ids_with at l n) (suc n ∷ []) ∙ or_left _ _ old)
            | inr non ↦ subst (λ xs. Has xs i) (sym (ids_no at l n non)) old
          ]
    ]

pub ids_pairs : (at : Clauses) (l : Literal) (n : ℕ) → AllPairs (λ x y. x < y) (ids_with at l n)
ids_pairs at l zero = λ i j d h k. absurd (omega arith)
ids_pairs at l (suc n) =
    elim (has_literal_cases at l (suc n)) [
      | inl y ↦ subst (AllPairs (λ x y. x < y)) (sym (ids_yes at l n y))
          (all_pairs_push (λ x y. x < y) (ids_with at l n) (suc n) (ids_pairs at l n)
          (λ k d h. let b = (ids_bound at l n (get_or (ids_with at l n) k d)
          (Has-from_Contains _ _ (Contains-get_or (ids_with at l n) k d h))).0 in
          omega arith))
      | inr non ↦ subst (AllPairs (λ x y. x < y)) (sym (ids_no at l n non)) (ids_pairs at l n)
    ]

increasing_from_pairs : (xs : List ℕ) → AllPairs (λ x y. x < y) xs → IsStrictlyIncreasing xs
increasing_from_pairs xs p = λ k h. p k (k + 1) 0 (omega arith) h

-- no clause has the id 0 or an id past the last
pub record InRange (at : Clauses) (last : ℕ) : Type 0 where
  pub none_at_zero : at 0 ≡ None
  pub none_past : (i : ℕ) → last < i → at i ≡ None

pub has_bounds : (at : Clauses) (last : ℕ) → InRange at last → (l : Literal) (i : ℕ)
    → HasLiteral at l i → (0 < i) × (i ≤ last)
has_bounds at last r l zero h = let a = r.none_at_zero in let b = h.1 in absurd (cc)
has_bounds at last r l (suc i) h = (
  omega arith,
  elim (cases_lt last (suc i)) [
    | inl past ↦ let a = r.none_past (suc i) past in
        let b = h.1 in absurd (cc)
    | inr le ↦ le
  ],
)

pub same_ids_rising : (at : Clauses) (last : ℕ) → InRange at last → (l : Literal) (xs : List ℕ)
    → (same_ids xs (ids_with at l last) ≡ true) ↔ (IsStrictlyIncreasing xs
    × ((i : ℕ) → Contains xs i ↔ HasLiteral at l i))
same_ids_rising at last r l xs = (
  λ e. let same = same_ids-true xs (ids_with at l last) e in (
    subst IsStrictlyIncreasing (sym same) (increasing_from_pairs _ (ids_pairs at l last)),
    λ i. (
      λ h. (ids_bound at l last i (subst (λ ys. Has ys i) same (Has-from_Contains xs i h))).1,
      λ h. let b = has_bounds at last r l i h in
          Contains-from_Has xs i
          (subst (λ ys. Has ys i) (sym same) (ids_all at l last i b.0 b.1 h)),
    ),
  ),
  λ h. let same =
      same_rising xs (ids_with at l last) (rises_from_pairs xs (AllPairs-from_increasing xs h.0))
      (rises_from_pairs _ (ids_pairs at l last))
      (λ i m. let y = (h.1 i).0 (Contains-from_Has xs i m) in let b = has_bounds at last r l i y in
      ids_all at l last i b.0 b.1 y)
      (λ i m. Has-from_Contains xs i ((h.1 i).1 (ids_bound at l last i m).1)) in
      subst (λ ys. same_ids xs ys ≡ true) same (same_ids-refl xs),
)
