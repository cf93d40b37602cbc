-- Literals that hints do not need, and clauses of one literal as hints.
use Rattle.std.proofs.Common.{◌≡◌, ℕ, Bool, true, false, ◌||◌, List, [], ◌∷◌, ◌++◌, ◌⊎◌, inl, inr}
use Rattle.std.proofs.Common.{refl, sym, ◌∙◌, subst}
use Rattle.std.specs.List.{AllByRecursion}
use Rattle.std.proofs.Math.Bool.{or-false}
use Rattle.std.proofs.lemmas.Bool.{cases_Bool, or_cases, or_left, or_right, both_ways}
use Rattle.cnf.specs.Literal.{Literal, negation, literal_eq}
use Rattle.cnf.specs.Clause.{contains_literal, HaveSame}
use Rattle.cnf.specs.Refute.{Clauses, IsUnit, Leads, Refutes}
use Rattle.cnf.proofs.Laws.{refutes_after, contains-append}
use Rattle.cnf.proofs.Laws.{literal_eq-refl, all_weaker}
use Rattle.cdcl_search.specs.Hinting.{Serves, AreUnits}
use Rattle.clauses.specs.Within.{Within}

-- A literal whose negation stands in no hinted clause is not needed.

all_in : (P Q : Literal → Type 0) (c : List Literal)
    → ((l : Literal) → contains_literal l c ≡ true → P l → Q l) → AllByRecursion P c
    → AllByRecursion Q c
all_in P Q [] f h = tt
all_in P Q (l ∷ c) f h = (
  f l (or_left (literal_eq l l) (contains_literal l c) (literal_eq-refl l)) h.0,
  all_in P Q c (λ k m. f k (or_right (literal_eq k l) (contains_literal k c) m)) h.1,
)

false_less : (A B : List Literal) (l : Literal) → Within B A → contains_literal l A ≡ false
    → contains_literal l B ≡ false
false_less A B l w e =
    elim (cases_Bool (contains_literal l B)) [ inl t ↦ absurd (both_ways _ e (w l t)) | inr f ↦ f ]

unit_served : (c A B : List Literal) (l : Literal) → Within B A
    → ((k : Literal) → contains_literal k c ≡ true → contains_literal (negation k) A ≡ true
    → contains_literal (negation k) B ≡ true)
    → IsUnit c A l → IsUnit c B l
unit_served c A B l w s u = record {
  member = u.member;
  not_true = false_less A B l w u.not_true;
  not_false = false_less A B (negation l) w u.not_false;
  others =
      all_in (λ k. (k ≡ l) ⊎ (contains_literal (negation k) A ≡ true))
      (λ k. (k ≡ l) ⊎ (contains_literal (negation k) B ≡ true)) c
      (λ k m h. elim h [ inl e ↦ inl e | inr e ↦ inr (s k m e) ]) u.others;
}

within_more : (A B : List Literal) (l : Literal) → Within B A → Within (l ∷ B) (l ∷ A)
within_more A B l w k e = elim (or_cases (literal_eq k l) (contains_literal k B) e) [
  | inl h ↦ or_left (literal_eq k l) (contains_literal k A) h
  | inr h ↦ or_right (literal_eq k l) (contains_literal k A) (w k h)
]

serves_more : (at : Clauses) (A B : List Literal) (l : Literal) (hs : List ℕ) → Serves at A B hs
    → Serves at (l ∷ A) (l ∷ B) hs
serves_more at A B l hs s =
    all_weaker _ _ hs (λ h f c e k m t. elim (or_cases (literal_eq (negation k) l)
    (contains_literal (negation k) A) t) [
      | inl x ↦ or_left (literal_eq (negation k) l) (contains_literal (negation k) B) x
      | inr x ↦ or_right (literal_eq (negation k) l) (contains_literal (negation k) B) (f c e k m x)
    ]) s

leads_served : (at : Clauses) (A B : List Literal) (hs : List ℕ) (final : ℕ) (C : List Literal)
    → Within B A → Serves at A B (hs ++ final ∷ []) → Leads at A hs C
    → (D : List Literal) × Leads at B hs D × Within D C × Serves at C D (final ∷ [])
leads_served at A B [] final C w s e =
    (B, refl, subst (Within B) (sym e) w, subst (λ X. Serves at X B (final ∷ [])) (sym e) s)
leads_served at A B (h ∷ hs) final C w s v =
    let rest =
    leads_served at (v.1 ∷ A) (v.1 ∷ B) hs final C (within_more A B v.1 w)
    (serves_more at A B v.1 (hs ++ final ∷ []) s.1) v.4 in
    (rest.0, (v.0, v.1, v.2, unit_served v.0 A B v.1 w (s.0 v.0 v.2) v.3, rest.1), rest.2, rest.3)

-- fewer literals, by which the hinted clauses are still unit and false
pub refutes_served : (at : Clauses) (A B : List Literal) (hs : List ℕ) → Within B A
    → Serves at A B hs → Refutes at A hs → Refutes at B hs
refutes_served at A B hs w s r =
    let z =
    leads_served at A B r.front r.final r.reached w (subst (Serves at A B) r.split s) r.leads in
    record {
      front = r.front;
      final = r.final;
      split = r.split;
      reached = z.0;
      leads = z.1;
      clause = r.clause;
      live = r.live;
      conflict =
          all_in (λ k. contains_literal (negation k) r.reached ≡ true)
          (λ k. contains_literal (negation k) z.0 ≡ true) r.clause
          (λ k m e. z.3.0 r.clause r.live k m e) r.conflict;
    }

-- Clauses of one literal as hints.

-- the literals are open under A, and apart
abbrev pub AreOpen : List Literal → List Literal → Type 0
AreOpen A [] = Unit {0}
AreOpen A (l ∷ ls) = (contains_literal l A ≡ false) × (contains_literal (negation l) A ≡ false)
    × AreOpen (l ∷ A) ls

abbrev pub with_all : List Literal → List Literal → List Literal
with_all A [] = A
with_all A (l ∷ ls) = with_all (l ∷ A) ls

one_unit : (l : Literal) (A : List Literal) → contains_literal l A ≡ false
    → contains_literal (negation l) A ≡ false → IsUnit (l ∷ []) A l
one_unit l A e f =
    record {
      member = or_left (literal_eq l l) false (literal_eq-refl l);
      not_true = e;
      not_false = f;
      others = (inl refl, tt);
    }

pub leads_units : (at : Clauses) (A : List Literal) (rs : List ℕ) (ls : List Literal)
    → AreUnits at rs ls → AreOpen A ls → Leads at A rs (with_all A ls)
leads_units at A [] [] u o = refl
leads_units at A (r ∷ rs) (l ∷ ls) u o =
    (l ∷ [], l, u.0, one_unit l A o.0 o.1, leads_units at (l ∷ A) rs ls u.1 o.2)
leads_units at A [] (l ∷ ls) u o = absurd u
leads_units at A (r ∷ rs) [] u o = absurd u

or_swap : (a b c : Bool) → ((a || b) || c) ≡ (b || (a || c))
or_swap true true c = refl
or_swap true false c = refl
or_swap false b c = refl

pub contains-with_all : (k : Literal) (A ls : List Literal)
    → contains_literal k (with_all A ls) ≡ (contains_literal k ls || contains_literal k A)
contains-with_all k A [] = refl
contains-with_all k A (l ∷ ls) = contains-with_all k (l ∷ A) ls
    ∙ sym (or_swap (literal_eq k l) (contains_literal k ls) (contains_literal k A))

or_comm : (a b : Bool) → (a || b) ≡ (b || a)
or_comm true true = refl
or_comm true false = refl
or_comm false b = sym (or-false b)

same_front : (A ls : List Literal) → HaveSame (A ++ ls) (with_all A ls)
same_front A ls k = contains-append k A ls ∙ or_comm (contains_literal k A) (contains_literal k ls)
    ∙ sym (contains-with_all k A ls)

-- unit clauses first, then hints that refute with their literals
pub refutes_after_units : (at : Clauses) (A : List Literal) (rs : List ℕ) (ls : List Literal)
    (hints : List ℕ) → AreUnits at rs ls → AreOpen A ls
    → Refutes at (A ++ ls) hints → Refutes at A (rs ++ hints)
refutes_after_units at A rs ls hints u o r =
    refutes_after at A rs (with_all A ls) (A ++ ls) hints (leads_units at A rs ls u o)
    (same_front A ls) r
