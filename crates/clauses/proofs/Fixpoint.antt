-- Where no clause is false or unit, no hints refute the clauses.
use Rattle.std.proofs.Common.{◌≡◌, ℕ, true, List, [], ◌∷◌, Some, ◌⊎◌, inl, inr, sym, ◌∙◌, ap}
use Rattle.std.specs.List.{AllByRecursion}
use Rattle.std.proofs.lemmas.Bool.{cases_Bool, or_cases, false≢true}
use Rattle.cnf.specs.Literal.{Literal, negation, literal_eq}
use Rattle.cnf.specs.Clause.{contains_literal}
use Rattle.cnf.specs.Refute.{Clauses, IsUnit, IsFalseUnder, Leads, Refutes}
use Rattle.cnf.proofs.Laws.{literal_eq-true}
use Rattle.clauses.specs.Within.{Within}

abbrev pub OpensNothing : Clauses → List Literal → Type 0
OpensNothing at A = (r : ℕ) (c : List Literal) → at r ≡ Some c → (IsFalseUnder c A → ⊥)
    × ((l : Literal) → IsUnit c A l → ⊥)

parts_more : (A B : List Literal) (l : Literal) → Within B A → (c : List Literal)
    → AllByRecursion (λ k. (k ≡ l) ⊎ (contains_literal (negation k) B ≡ true)) c
    → AllByRecursion (λ k. (k ≡ l) ⊎ (contains_literal (negation k) A ≡ true)) c
parts_more A B l h [] p = tt
parts_more A B l h (k ∷ c) p =
    (elim (p.0) [ inl s ↦ inl s | inr f ↦ inr (h (negation k) f) ], parts_more A B l h c p.1)

all_false : (A : List Literal) (l : Literal) (c : List Literal)
    → contains_literal (negation l) A ≡ true
    → AllByRecursion (λ k. (k ≡ l) ⊎ (contains_literal (negation k) A ≡ true)) c → IsFalseUnder c A
all_false A l [] f p = tt
all_false A l (k ∷ c) f p = (
  elim (p.0) [ inl s ↦ ap (λ x. contains_literal (negation x) A) s ∙ f | inr g ↦ g ],
  all_false A l c f p.1,
)

-- a unit clause has its literal true already
unit_is_true : (at : Clauses) (A B : List Literal) (h : ℕ) (c : List Literal) (l : Literal)
    → OpensNothing at A → Within B A → at h ≡ Some c → IsUnit c B l → contains_literal l A ≡ true
unit_is_true at A B h c l fixpoint within e u =
    let others = parts_more A B l within c u.others in
    elim (cases_Bool (contains_literal l A)) as (λ _. contains_literal l A ≡ true) [
      | inl t ↦ t
      | inr n ↦ elim (cases_Bool (contains_literal (negation l) A))
          as (λ _. contains_literal l A ≡ true) [
            | inl f ↦ absurd ((fixpoint h c e).0 (all_false A l c f others))
            | inr o ↦ absurd ((fixpoint h c e).1 l
                (record { member = u.member; not_true = n; not_false = o; others = others }))
          ]
    ]

fixpoint_leads : (at : Clauses) (A : List Literal) → OpensNothing at A → (B : List Literal)
    → Within B A → (hs : List ℕ) (C : List Literal) → Leads at B hs C → Within C A
fixpoint_leads at A fixpoint B within [] C w = λ l m. within l (sym (ap (contains_literal l) w) ∙ m)
fixpoint_leads at A fixpoint B within (h ∷ hs) C w =
    let true_one = unit_is_true at A B h w.0 w.1 fixpoint within w.2 w.3 in
    fixpoint_leads at A fixpoint (w.1 ∷ B)
    (λ l m. elim (or_cases (literal_eq l w.1) (contains_literal l B) m) [
      | inl s ↦ ap (λ x. contains_literal x A) (literal_eq-true l w.1 s) ∙ true_one
      | inr b ↦ within l b
    ]) hs C w.4

false_more : (c A B : List Literal) → Within B A → IsFalseUnder c B → IsFalseUnder c A
false_more [] A B h f = tt
false_more (l ∷ c) A B h f = (h (negation l) f.0, false_more c A B h f.1)

pub not_refuted : (at : Clauses) (A : List Literal) → OpensNothing at A → (hs : List ℕ)
    → Refutes at [] hs → ⊥
not_refuted at A fixpoint hs w =
    (fixpoint w.final w.clause w.live).0
    (false_more w.clause A w.reached
    (fixpoint_leads at A fixpoint [] (λ l m. absurd (false≢true m)) w.front w.reached w.leads)
    w.conflict)
