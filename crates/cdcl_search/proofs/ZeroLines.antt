-- Lines at level 0: a clause of one literal, and the empty clause.
use Rattle.std.proofs.Common.{◌≡◌, ◌≢◌, ℕ, true, false, List, [], ◌∷◌, ◌++◌, map, Some, inl, inr}
use Rattle.std.proofs.Common.{refl, sym, ◌∙◌, ap, subst}
use Rattle.std.proofs.lemmas.Bool.{cases_Bool, both_ways, or_left, or_right, or_from}
use Rattle.std.proofs.lemmas.List.{append-nil}
use Rattle.cnf.specs.Literal.{Literal, negation, literal_eq}
use Rattle.cnf.specs.Clause.{contains_literal, has_repeat}
use Rattle.cnf.specs.Refute.{Clauses, Refutes, IsUnit, IsFalseUnder}
use Rattle.cnf.proofs.Laws.{literal_eq-true}
use Rattle.propagate.specs.Trail.{Assigned, literals_of, HasReasons, IsJustified}
use Rattle.propagate.proofs.Laws.{negation_twice}
use Rattle.cnf.proofs.Laws.{literal_eq-refl, all_from}
use Rattle.propagate.proofs.Laws.{NoTautology, justified_same, same_swap}
use Rattle.cdcl_search.specs.Hinting.{AreUnits}
use Rattle.clauses.specs.Within.{Within}
use Rattle.cdcl_search.proofs.Zero.{AreOpen, refutes_after_units}
use Rattle.cdcl_search.proofs.LearnedLines.{open_all}

-- unit clauses, and one that is false with their literals
pub refutes_one : (at : Clauses) (A : List Literal) (us : List ℕ) (zs : List Literal) (r : ℕ)
    (c : List Literal) → AreUnits at us zs → AreOpen A zs → at r ≡ Some c → IsFalseUnder c (A ++ zs)
    → Refutes at A (us ++ r ∷ [])
refutes_one at A us zs r c units opens here wrong =
    refutes_after_units at A us zs (r ∷ []) units opens (record {
      front = [];
      final = r;
      split = refl;
      reached = A ++ zs;
      leads = refl;
      clause = c;
      live = here;
      conflict = wrong;
    })

-- the empty clause, by a clause that is false at level 0
pub refutes_empty : (at : Clauses) (us : List ℕ) (zs : List Literal) (r : ℕ) (c : List Literal)
    → AreUnits at us zs → has_repeat zs ≡ false → NoTautology zs → at r ≡ Some c
    → ((k : Literal) → contains_literal k c ≡ true → contains_literal (negation k) zs ≡ true)
    → Refutes at (map negation []) (us ++ r ∷ [])
refutes_empty at us zs r c units once apart here wrong =
    refutes_one at [] us zs r c units (open_all [] zs (λ z m. (refl, refl)) once apart) here
    (all_from (λ k. contains_literal (negation k) zs ≡ true) c wrong)

-- a literal, by its reason
pub refutes_unit : (at : Clauses) (A : List Literal) (l : Literal) (us : List ℕ) (zs : List Literal)
    (r : ℕ) (c : List Literal) → AreUnits at us zs → has_repeat zs ≡ false → NoTautology zs
    → Within zs A
    → at r ≡ Some c → IsUnit c A l → ((k : Literal) → contains_literal k c ≡ true → k ≢ l
    → contains_literal (negation k) zs ≡ true)
    → Refutes at (map negation (l ∷ [])) (us ++ r ∷ [])
refutes_unit at A l us zs r c units once apart within here u wrong =
    let other : (z : Literal) → contains_literal z A ≡ true → literal_eq z (negation l) ≡ false =
    λ z m. elim (cases_Bool (literal_eq z (negation l)))
    as (λ _. literal_eq z (negation l) ≡ false) [
      | inr e ↦ e
      | inl t ↦ absurd (both_ways _ u.not_false
          (ap (λ x. contains_literal x A) (sym (literal_eq-true z (negation l) t)) ∙ m))
    ] in
    let not_it : (z : Literal) → contains_literal z A ≡ true
    → literal_eq (negation z) (negation l) ≡ false =
    λ z m. elim (cases_Bool (literal_eq (negation z) (negation l)))
    as (λ _. literal_eq (negation z) (negation l) ≡ false) [
      | inr e ↦ e
      | inl t ↦
          let same : z ≡ l =
          sym (negation_twice z) ∙ ap negation (literal_eq-true (negation z) (negation l) t)
          ∙ negation_twice l in
          absurd (both_ways _ u.not_true (ap (λ x. contains_literal x A) (sym same) ∙ m))
    ] in
    refutes_one at (negation l ∷ []) us zs r c units
    (open_all (negation l ∷ []) zs
    (λ z m. (
      or_from (literal_eq z (negation l)) false (other z (within z m)) refl,
      or_from (literal_eq (negation z) (negation l)) false (not_it z (within z m)) refl,
    ))
    once apart)
    here
    (all_from (λ k. contains_literal (negation k) (negation l ∷ zs) ≡ true) c
    (λ k m. elim (cases_Bool (literal_eq k l)) as (λ _. contains_literal (negation k)
    (negation l ∷ zs) ≡ true) [
      | inl s ↦ or_left (literal_eq (negation k) (negation l)) (contains_literal (negation k) zs)
          (ap (λ x. literal_eq (negation x) (negation l)) (literal_eq-true k l s)
          ∙ literal_eq-refl (negation l))
      | inr n ↦ or_right (literal_eq (negation k) (negation l)) (contains_literal (negation k) zs)
          (wrong k m (λ same. both_ways _ n (ap (λ x. literal_eq x l) same ∙ literal_eq-refl l)))
    ]))

-- the reason of a literal in its place on the trail
justified_on : (at : Clauses) (A : List Literal) (T : List Assigned) (a : Assigned)
    (U : List Assigned) → HasReasons at A (T ++ a ∷ U)
    → IsJustified at (literals_of T ++ A) a.literal a.reason
justified_on at A [] a U h = h.0
justified_on at A (b ∷ T) a U h =
    justified_same at (literals_of T ++ (b.literal ∷ A)) (b.literal ∷ (literals_of T ++ A))
    a.literal a.reason (λ k. sym (same_swap A (literals_of T) b.literal k))
    (justified_on at (b.literal ∷ A) T a U h.1)

pub justified_at : (at : Clauses) (T : List Assigned) (a : Assigned) (U : List Assigned)
    → HasReasons at [] (T ++ a ∷ U) → IsJustified at (literals_of T) a.literal a.reason
justified_at at T a U h =
    subst (λ A. IsJustified at A a.literal a.reason) (append-nil (literals_of T))
    (justified_on at [] T a U h)
