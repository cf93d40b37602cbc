-- Resolvents, strengthened clauses and units are RUP lines by the hints that their makers know.
use Rattle.std.proofs.Common.{◌≡◌, ℕ, true, false, not, List, [], ◌∷◌, ◌++◌, map, filter, Some, ◌⊎◌}
use Rattle.std.proofs.Common.{inl, inr, refl, sym, ◌∙◌, ap, subst}
use Rattle.std.proofs.lemmas.Bool.{or_cases, or_left, or_right, both_ways, false_from_ne_true}
use Rattle.cnf.specs.Literal.{Literal, negation, literal_eq}
use Rattle.cnf.specs.Clause.{contains_literal, without_literal, is_tautology}
use Rattle.cnf.specs.Refute.{IsFalseUnder, Clauses, Refutes}
use Rattle.eliminate_tables.specs.Resolvents.{resolvent}
use Rattle.cnf.proofs.Laws.{literal_eq-refl, all_from, absent_own, contains_front, contains_back}
use Rattle.cnf.proofs.Laws.{negation_twice}
use Rattle.cnf.proofs.Laws.{contains-negations}
use Rattle.cnf.proofs.Laws.{Covers, covered_unit, contains_same, contains-filter}
use Rattle.cnf.proofs.Laws.{filter-contains, without-contains}
use Rattle.cnf.proofs.Laws.{not-complement}

covered_false : (p : Literal) (r d : List Literal) → Covers (negation p) r d
    → IsFalseUnder d (p ∷ map negation r)
covered_false p r [] h = tt
covered_false p r (k ∷ d) h = (
  elim h.0 [
    | inl e ↦ subst (λ x. contains_literal (negation x) (p ∷ map negation r) ≡ true) (sym e)
        (or_left (literal_eq (negation (negation p)) p)
        (contains_literal (negation (negation p)) (map negation r))
        (subst (λ x. literal_eq x p ≡ true) (sym (negation_twice p)) (literal_eq-refl p)))
    | inr e ↦ or_right (literal_eq (negation k) p) (contains_literal (negation k) (map negation r))
        (contains-negations k r ∙ e)
  ],
  covered_false p r d h.1,
)

-- two clauses that cover r but for p and its negation refute the negations of r, in this order
pub two_refute : (at : Clauses) (p : Literal) (r c d : List Literal) (i j : ℕ) → at i ≡ Some c
    → at j ≡ Some d
    → contains_literal p c ≡ true → Covers p r c → Covers (negation p) r d
    → contains_literal p r ≡ false → contains_literal (negation p) r ≡ false
    → Refutes at (map negation r) (i ∷ j ∷ [])
two_refute at p r c d i j first second member covers_c covers_d apart apart_not = record {
  front = i ∷ [];
  final = j;
  split = refl;
  reached = p ∷ map negation r;
  leads = (c, p, first, covered_unit p r c member covers_c apart apart_not, refl);
  clause = d;
  live = second;
  conflict = covered_false p r d covers_d;
}

pub contains-either : (k : Literal) (c d : List Literal) → contains_literal k (c ++ d) ≡ true
    → (contains_literal k c ≡ true) ⊎ (contains_literal k d ≡ true)
contains-either k [] d e = inr e
contains-either k (l ∷ c) d e =
    elim (or_cases (literal_eq k l) (contains_literal k (c ++ d)) e) [
      | inl h ↦ inl (or_left (literal_eq k l) (contains_literal k c) h)
      | inr h ↦ elim (contains-either k c d h) [
        | inl m ↦ inl (or_right (literal_eq k l) (contains_literal k c) m)
        | inr m ↦ inr m
      ]
    ]

pub resolvent-covers_left : (p : Literal) (c d : List Literal) → Covers p (resolvent p c d) c
resolvent-covers_left p c d =
    all_from (λ k. (k ≡ p) ⊎ (contains_literal k (resolvent p c d) ≡ true)) c (λ k e.
    elim (without-contains p k c e) [
      | inl h ↦ inl h
      | inr h ↦ inr (contains_front k (without_literal p c) _ h)
    ])

in_rest : (k : Literal) (a b : List Literal) → contains_literal k b ≡ true
    → contains_literal k (a ++ filter (λ k. not (contains_literal k a)) b) ≡ true
in_rest k a b e =
    elim (contains_literal k a) as (λ v. contains_literal k a ≡ v
    → contains_literal k (a ++ filter (λ k. not (contains_literal k a)) b) ≡ true) [
      | true ↦ λ h. contains_front k a _ h
      | false ↦ λ h. contains_back k a _ (contains-filter (λ k. not (contains_literal k a)) k b e
          (ap not h))
    ] refl

pub resolvent-covers_right : (p : Literal) (c d : List Literal)
    → Covers (negation p) (resolvent p c d) d
resolvent-covers_right p c d =
    all_from (λ k. (k ≡ negation p) ⊎ (contains_literal k (resolvent p c d) ≡ true)) d (λ k e.
    elim (without-contains (negation p) k d e) [
      | inl h ↦ inl h
      | inr h ↦ inr (in_rest k (without_literal p c) (without_literal (negation p) d) h)
    ])

-- a literal of the resolvent is one of the parents', less the pivot
pub resolvent-parts : (p k : Literal) (c d : List Literal)
    → contains_literal k (resolvent p c d) ≡ true
    → (contains_literal k (without_literal p c) ≡ true)
    ⊎ (contains_literal k (without_literal (negation p) d) ≡ true)
resolvent-parts p k c d e =
    elim (contains-either k (without_literal p c) _ e) [
      | inl h ↦ inl h
      | inr h ↦ inr (filter-contains (λ k. not (contains_literal k (without_literal p c))) k
          (without_literal (negation p) d) h).0
    ]

pub resolvent-open : (p : Literal) (c d : List Literal) → contains_literal p d ≡ false
    → contains_literal p (resolvent p c d) ≡ false
resolvent-open p c d n =
    false_from_ne_true (contains_literal p (resolvent p c d))
    (λ e. elim (resolvent-parts p p c d e) [
      | inl h ↦ both_ways (contains_literal p (without_literal p c)) (absent_own p c) h
      | inr h ↦ both_ways (contains_literal p d) n
          (filter-contains (λ l. not (literal_eq (negation p) l)) p d h).0
    ])

pub resolvent-open_not : (p : Literal) (c d : List Literal)
    → contains_literal (negation p) c ≡ false
    → contains_literal (negation p) (resolvent p c d) ≡ false
resolvent-open_not p c d n =
    false_from_ne_true (contains_literal (negation p) (resolvent p c d))
    (λ e. elim (resolvent-parts p (negation p) c d e) [
      | inl h ↦ both_ways (contains_literal (negation p) c) n
          (filter-contains (λ l. not (literal_eq p l)) (negation p) c h).0
      | inr h ↦ both_ways (contains_literal (negation p) (without_literal (negation p) d))
          (absent_own (negation p) d) h
    ])

-- what is asked of two parents
pub record AreParents (at : Clauses) (p : Literal) (c d : List Literal) (i j : ℕ) : Type 0 where
  pub first : at i ≡ Some c
  pub second : at j ≡ Some d
  pub has : contains_literal p c ≡ true
  pub has_not : contains_literal (negation p) d ≡ true
  pub plain : is_tautology c ≡ false
  pub plain_too : is_tautology d ≡ false

pub not-complement_too : (p : Literal) (d : List Literal) → is_tautology d ≡ false
    → contains_literal (negation p) d ≡ true → contains_literal p d ≡ false
not-complement_too p d o e = contains_same p (negation (negation p)) d (sym (negation_twice p))
    ∙ not-complement (negation p) d o e

-- a resolvent is a RUP line by its parents, the one with the pivot first; is_tautology of the
-- resolvent does not matter for that
pub resolvent_refutes : (at : Clauses) (p : Literal) (c d : List Literal) (i j : ℕ)
    → AreParents at p c d i j → Refutes at (map negation (resolvent p c d)) (i ∷ j ∷ [])
resolvent_refutes at p c d i j a = two_refute at p (resolvent p c d) c d i j a.first a.second a.has
    (resolvent-covers_left p c d) (resolvent-covers_right p c d)
    (resolvent-open p c d (not-complement_too p d a.plain_too a.has_not))
    (resolvent-open_not p c d (not-complement p c a.plain a.has))
