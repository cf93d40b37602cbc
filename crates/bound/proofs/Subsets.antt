-- Subsets of clauses, as they are kept.
use Rattle.std.proofs.Common.{◌≡◌, Bool, true, false, not, ◌||◌, List, [], ◌∷◌, reverse}
use Rattle.std.proofs.Common.{if◌then◌else◌, inl, inr, refl, sym, ◌∙◌, ap, subst}
use Rattle.std.specs.List.{list_any, AllByRecursion}
use Rattle.std.proofs.lemmas.Bool.{false≢true, true≢false, or_cases, or_left, or_right, both_ways}
use Rattle.std.proofs.lemmas.Grind.{reverse_onto}
use Rattle.std.proofs.lemmas.List.Folds.{list_any-append}
use Rattle.std.proofs.Math.Bool.{or_comm}
use Rattle.cnf.specs.Literal.{Literal, negation, literal_eq}
use Rattle.cnf.specs.Clause.{contains_literal, distinct, is_tautology, is_subset}
use Rattle.cnf.proofs.Laws.{literal_eq-refl, literal_eq-true, negation_twice, all_append, subset_at}
use Rattle.cnf.proofs.Laws.{subset_from}
use Rattle.bound.specs.Bound.{kept}
use Rattle.bound.proofs.Clauses.{any-distinct}

not_own_negation : (l : Literal) → l ≡ negation l → ⊥
not_own_negation l e = by l.negated (λ i. (e i).negated)
  where
    by : (b : Bool) → b ≡ not b → ⊥
    by true h = true≢false h
    by false h = false≢true h

pub subset_self : (c : List Literal) → is_subset c c ≡ true
subset_self c = subset_from c c (λ l m. m)

pub subset_more : (l : Literal) (d c : List Literal) → is_subset d c ≡ true
    → is_subset d (l ∷ c) ≡ true
subset_more l d c h =
    subset_from d (l ∷ c) (λ k m. or_right (literal_eq k l) (contains_literal k c)
    (subset_at d c k h m))

subset-distinct : (d c : List Literal) → is_subset d c ≡ true
    → is_subset (distinct d) (distinct c) ≡ true
subset-distinct d c h =
    subset_from (distinct d) (distinct c) (λ l m. any-distinct (literal_eq l) c
    ∙ subset_at d c l h (sym (any-distinct (literal_eq l) d) ∙ m))

tautologies_from : (c : List Literal) → is_tautology c ≡ true
    → (l : Literal) × (contains_literal l c ≡ true) × (contains_literal (negation l) c ≡ true)
tautologies_from [] h = absurd (false≢true h)
tautologies_from (k ∷ c) h =
    elim (or_cases (contains_literal (negation k) c) (is_tautology c) h) [
      | inl here ↦ (
        k,
        or_left (literal_eq k k) (contains_literal k c) (literal_eq-refl k),
        or_right (literal_eq (negation k) k) (contains_literal (negation k) c) here,
      )
      | inr more ↦
          let r = tautologies_from c more in (
            r.0,
            or_right (literal_eq r.0 k) (contains_literal r.0 c) r.1,
            or_right (literal_eq (negation r.0) k) (contains_literal (negation r.0) c) r.2,
          )
    ]

tautologies_to : (l : Literal) (c : List Literal) → contains_literal l c ≡ true
    → contains_literal (negation l) c ≡ true → is_tautology c ≡ true
tautologies_to l [] h g = absurd (false≢true h)
tautologies_to l (k ∷ c) h g =
    elim (or_cases (literal_eq l k) (contains_literal l c) h) [
      | inl here ↦ elim (or_cases (literal_eq (negation l) k) (contains_literal (negation l) c) g) [
        | inl too ↦ absurd (not_own_negation l (literal_eq-true l k here
            ∙ sym (literal_eq-true (negation l) k too)))
        | inr rest ↦ or_left (contains_literal (negation k) c) (is_tautology c)
            (subst (λ x. contains_literal (negation x) c ≡ true) (literal_eq-true l k here) rest)
      ]
      | inr more ↦ elim (or_cases (literal_eq (negation l) k) (contains_literal (negation l) c) g) [
        | inl too ↦ or_left (contains_literal (negation k) c) (is_tautology c)
            (subst (λ x. contains_literal (negation x) c ≡ true)
            (literal_eq-true (negation l) k too)
            (subst (λ x. contains_literal x c ≡ true) (sym (negation_twice l)) more))
        | inr rest ↦ or_right (contains_literal (negation k) c) (is_tautology c)
            (tautologies_to l c more rest)
      ]
    ]

-- a subset of a clause with no complementary literals has none
subset_no_tautology : (d c : List Literal) → is_subset d c ≡ true → is_tautology c ≡ false
    → is_tautology d ≡ false
subset_no_tautology d c h e =
    elim (is_tautology d) as (λ b. is_tautology d ≡ b → b ≡ false) [
      | false ↦ λ g. refl
      | true ↦ λ g.
          let r = tautologies_from d g in
          absurd (both_ways _ e (tautologies_to r.0 c (subset_at d c r.0 h r.1)
          (subset_at d c (negation r.0) h r.2)))
    ] refl

-- some clause of cs is a subset of c
abbrev pub covers : List (List Literal) → List Literal → Bool
covers cs c = list_any (λ d. is_subset d c) cs

pub covers_more : (l : Literal) (cs : List (List Literal)) (c : List Literal) → covers cs c ≡ true
    → covers cs (l ∷ c) ≡ true
covers_more l [] c h = absurd (false≢true h)
covers_more l (d ∷ cs) c h =
    elim (or_cases (is_subset d c) (covers cs c) h) [
      | inl here ↦ or_left (is_subset d (l ∷ c)) (covers cs (l ∷ c)) (subset_more l d c here)
      | inr more ↦ or_right (is_subset d (l ∷ c)) (covers cs (l ∷ c)) (covers_more l cs c more)
    ]

covers-reverse : (cs : List (List Literal)) (c : List Literal) → covers (reverse cs) c ≡ covers cs c
covers-reverse [] c = refl
covers-reverse (d ∷ cs) c =
    ap (λ x. covers x c) (reverse_onto cs d [])
    ∙ list_any-append (λ x. is_subset x c) (reverse cs) (d ∷ [])
    ∙ (λ i. covers-reverse cs c i || or_comm (is_subset d c) false i)
    ∙ or_comm (covers cs c) (is_subset d c)

covers-kept : (cs : List (List Literal)) (c : List Literal) → covers cs c ≡ true
    → is_tautology (distinct c) ≡ false → covers (kept cs) (distinct c) ≡ true
covers-kept [] c h e = absurd (false≢true h)
covers-kept (d ∷ cs) c h e =
    elim (or_cases (is_subset d c) (covers cs c) h) [
      | inl here ↦
          let sub = subset-distinct d c here in
          ap (λ b. covers (if not b then distinct d ∷ kept cs else kept cs) (distinct c))
          (subset_no_tautology (distinct d) (distinct c) sub e)
          ∙ or_left (is_subset (distinct d) (distinct c)) (covers (kept cs) (distinct c)) sub
      | inr more ↦ elim (is_tautology (distinct d))
          as (λ b. covers (if not b then distinct d ∷ kept cs else kept cs) (distinct c) ≡ true) [
            | true ↦ covers-kept cs c more e
            | false ↦ or_right (is_subset (distinct d) (distinct c)) (covers (kept cs) (distinct c))
                (covers-kept cs c more e)
          ]
    ]

-- each clause of the second list is covered by the first
abbrev pub AreCovered : List (List Literal) → List (List Literal) → Type 0
AreCovered cs ds = AllByRecursion (λ c. covers cs c ≡ true) ds

pub kept_each : (cs ds : List (List Literal)) → AreCovered cs ds → AreCovered (kept cs) (kept ds)
kept_each cs [] h = tt
kept_each cs (d ∷ ds) h =
    elim (is_tautology (distinct d)) as (λ b. is_tautology (distinct d) ≡ b
    → AreCovered (kept cs) (if not b then distinct d ∷ kept ds else kept ds)) [
      | true ↦ λ e. kept_each cs ds h.1
      | false ↦ λ e. (covers-kept cs d h.0 e, kept_each cs ds h.1)
    ] refl

pub all_reverse : {X : Type 0} (P : X → Type 0) (xs : List X) → AllByRecursion P xs
    → AllByRecursion P (reverse xs)
all_reverse P [] h = tt
all_reverse P (x ∷ xs) h =
    subst (AllByRecursion P) (sym (reverse_onto xs x []))
    (all_append P (reverse xs) (x ∷ []) (all_reverse P xs h.1) (h.0, tt))

reversed_each : (cs ds : List (List Literal)) → AreCovered cs ds → AreCovered (reverse cs) ds
reversed_each cs [] h = tt
reversed_each cs (d ∷ ds) h = (covers-reverse cs d ∙ h.0, reversed_each cs ds h.1)

pub covered_kept : (cs ds : List (List Literal)) → AreCovered cs ds
    → AreCovered (kept (reverse cs)) (kept (reverse ds))
covered_kept cs ds h =
    kept_each (reverse cs) (reverse ds) (all_reverse (λ c. covers (reverse cs) c ≡ true) ds
    (reversed_each cs ds h))
