-- Literals with their reasons.
use Rattle.std.proofs.Common.{◌≡◌, ℕ, Bool, true, false, ◌||◌, List, [], ◌∷◌, ◌++◌, Option, Some}
use Rattle.std.proofs.Common.{None, inl, inr, refl, sym, ◌∙◌, ap, subst}
use Rattle.std.proofs.lemmas.Bool.{or_cases, both_ways, false≢true}
use Rattle.std.proofs.lemmas.List.{append-nil}
use Rattle.cnf.specs.Literal.{Literal, negation, literal_eq}
use Rattle.cnf.specs.Clause.{contains_literal, HaveSame}
use Rattle.cnf.specs.Refute.{Clauses}
use Rattle.cnf.proofs.Laws.{literal_eq-true, literal_eq-complement, contains-append}
use Rattle.cnf.proofs.Laws.{unit_same}
use Rattle.propagate_trail.specs.Trail.{Assigned, literals_of, HasReasons, IsJustified}
use Rattle.propagate_trail.proofs.Literals.{negation_twice}

pub justified_same : (at : Clauses) (A B : List Literal) (l : Literal) (r : Option ℕ) → HaveSame A B
    → IsJustified at A l r → IsJustified at B l r
justified_same at A B l None same h = (sym (same l) ∙ h.0, sym (same (negation l)) ∙ h.1)
justified_same at A B l (Some r) same h = (h.0, h.1, unit_same h.0 A B l same h.2)

pub reasons_front : (at : Clauses) (A : List Literal) (T U : List Assigned)
    → HasReasons at A (T ++ U) → HasReasons at A T
reasons_front at A [] U h = tt
reasons_front at A (a ∷ T) U h = (h.0, reasons_front at (a.literal ∷ A) T U h.1)

or_swap : (a b c : Bool) → (a || (b || c)) ≡ (b || (a || c))
or_swap true true c = refl
or_swap true false c = refl
or_swap false b c = refl

-- the order of literals is of no matter
pub same_swap : (A B : List Literal) (k : Literal) → HaveSame (k ∷ (B ++ A)) (B ++ (k ∷ A))
same_swap A B k l =
    ap (λ b. literal_eq l k || b) (contains-append l B A)
    ∙ or_swap (literal_eq l k) (contains_literal l B) (contains_literal l A)
    ∙ sym (contains-append l B (k ∷ A))

reasons_push_on : (at : Clauses) (A : List Literal) (T : List Assigned) (a : Assigned)
    → HasReasons at A T → IsJustified at (literals_of T ++ A) a.literal a.reason
    → HasReasons at A (T ++ a ∷ [])
reasons_push_on at A [] a h j = (j, tt)
reasons_push_on at A (b ∷ T) a h j = (
  h.0,
  reasons_push_on at (b.literal ∷ A) T a h.1
      (justified_same at (b.literal ∷ (literals_of T ++ A)) (literals_of T ++ (b.literal ∷ A))
      a.literal a.reason (same_swap A (literals_of T) b.literal) j),
)

pub reasons_push : (at : Clauses) (T : List Assigned) (a : Assigned) → HasReasons at [] T
    → IsJustified at (literals_of T) a.literal a.reason → HasReasons at [] (T ++ a ∷ [])
reasons_push at T a h j =
    reasons_push_on at [] T a h (subst (λ A. IsJustified at A a.literal a.reason)
    (sym (append-nil (literals_of T))) j)

-- no literal with its negation
abbrev pub NoTautology : List Literal → Type 0
NoTautology A = (l : Literal) → contains_literal l A ≡ true → contains_literal (negation l) A ≡ true
    → ⊥

pub open_literal : (at : Clauses) (A : List Literal) (l : Literal) (r : Option ℕ)
    → IsJustified at A l r → (contains_literal l A ≡ false)
    × (contains_literal (negation l) A ≡ false)
open_literal at A l None h = h
open_literal at A l (Some r) h = (h.2.not_true, h.2.not_false)

no_tautology_cons : (A : List Literal) (k : Literal) → contains_literal (negation k) A ≡ false
    → NoTautology A → NoTautology (k ∷ A)
no_tautology_cons A k new h l e f = elim (or_cases (literal_eq l k) (contains_literal l A) e) [
  | inl same ↦
      let s = literal_eq-true l k same in
      elim (or_cases (literal_eq (negation l) k) (contains_literal (negation l) A) f) [
        | inl g ↦ both_ways _ (subst (λ x. literal_eq (negation x) k ≡ false) (sym s)
            (literal_eq-complement k)) g
        | inr g ↦ both_ways _ (subst (λ x. contains_literal (negation x) A ≡ false) (sym s) new) g
      ]
  | inr member ↦ elim (or_cases (literal_eq (negation l) k) (contains_literal (negation l) A) f) [
    | inr g ↦ h l member g
    | inl g ↦
        let s : negation k ≡ l = ap negation (sym (literal_eq-true (negation l) k g))
        ∙ negation_twice l in
        both_ways _ (subst (λ x. contains_literal x A ≡ false) s new) member
  ]
]

no_tautology_on : (at : Clauses) (A : List Literal) (T : List Assigned) → HasReasons at A T
    → NoTautology A → NoTautology (literals_of T ++ A)
no_tautology_on at A [] h n = n
no_tautology_on at A (a ∷ T) h n =
    let o = open_literal at A a.literal a.reason h.0 in
    let rest = no_tautology_on at (a.literal ∷ A) T h.1 (no_tautology_cons A a.literal o.1 n) in
    let same = same_swap A (literals_of T) a.literal in
    λ l e f. rest l (sym (same l) ∙ e) (sym (same (negation l)) ∙ f)

pub no_tautology : (at : Clauses) (T : List Assigned) → HasReasons at [] T
    → NoTautology (literals_of T)
no_tautology at T h =
    subst NoTautology (append-nil (literals_of T))
    (no_tautology_on at [] T h (λ l e f. false≢true e))
