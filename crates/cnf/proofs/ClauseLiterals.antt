-- Literals in clauses: those that pass a test, and those that another clause has too.
use Rattle.std.proofs.Common.{◌≡◌, ◌==◌, ◌&&◌, ℕ, ◌+◌, ◌*◌, Bool, true, false, not, ◌≤◌, max}
use Rattle.std.proofs.Common.{List, []}
use Rattle.std.proofs.Common.{◌∷◌, map, filter}
use Rattle.std.proofs.Common.{◌⊎◌, inl, inr, refl, sym, ◌∙◌, ap, subst, arith}
use Rattle.std.specs.Prelude.{if◌then◌else◌}
use Rattle.std.specs.List.{AllByRecursion, list_any}
use Rattle.std.proofs.lemmas.Bool.{or_cases, or_parts, or_left, or_right, or_from}
use Rattle.std.proofs.lemmas.Bool.{both_ways, false_from_ne_true, false≢true, eq-eqb}
use Rattle.std.proofs.lemmas.Bool.{eqb-true, and_from}
use Rattle.cnf.specs.Literal.{Literal, Assignment, negation, literal_eq, literal_value, same_bool}
use Rattle.cnf.specs.Clause.{clause_value, contains_literal, without_literal, has_repeat}
use Rattle.cnf.specs.Clause.{is_tautology, greatest_variable}
use Rattle.cnf.specs.Refute.{IsUnit}
use Rattle.cnf.proofs.Literals.{literal_eq-refl, literal_eq-complement, negation_twice}
use Rattle.cnf.proofs.Members.{contains-negations, contains_negation}
use Rattle.cnf.proofs.Sound.{literal_eq-true}

pub not_not : (a : Bool) → not (not a) ≡ a
not_not true = refl
not_not false = refl

-- each literal of c but p is in r
abbrev pub Covers : Literal → List Literal → List Literal → Type 0
Covers p r c = AllByRecursion (λ k. (k ≡ p) ⊎ (contains_literal k r ≡ true)) c

covered_others : (p : Literal) (r c : List Literal) → Covers p r c
    → AllByRecursion (λ k. (k ≡ p) ⊎ (contains_literal (negation k) (map negation r) ≡ true)) c
covered_others p r [] h = tt
covered_others p r (k ∷ c) h = (
  elim h.0 [ inl e ↦ inl e | inr e ↦ inr (contains-negations k r ∙ e) ],
  covered_others p r c h.1,
)

-- a clause with p is unit with p where the rest is false
pub covered_unit : (p : Literal) (r c : List Literal) → contains_literal p c ≡ true → Covers p r c
    → contains_literal p r ≡ false → contains_literal (negation p) r ≡ false
    → IsUnit c (map negation r) p
covered_unit p r c member covers apart apart_not = record {
  member = member;
  not_true = contains_negation p r ∙ apart_not;
  not_false = contains-negations p r ∙ apart;
  others = covered_others p r c covers;
}

pub contains_same : (k l : Literal) (c : List Literal) → k ≡ l
    → contains_literal k c ≡ contains_literal l c
contains_same k l c e = ap (λ x. contains_literal x c) e

-- what passes a test stays in the list
pub contains-filter : (q : Literal → Bool) (k : Literal) (c : List Literal)
    → contains_literal k c ≡ true → q k ≡ true → contains_literal k (filter q c) ≡ true
contains-filter q k [] e t = e
contains-filter q k (l ∷ c) e t =
    elim (or_cases (literal_eq k l) (contains_literal k c) e) [
      | inl h ↦ rw (sym (ap q (literal_eq-true k l h)) ∙ t)
          (or_left (literal_eq k l) (contains_literal k (filter q c)) h)
      | inr h ↦ elim (q l) as (λ b. contains_literal k (if b then l ∷ filter q c else filter q c)
          ≡ true) [
            | true ↦ or_right (literal_eq k l) (contains_literal k (filter q c))
                (contains-filter q k c h t)
            | false ↦ contains-filter q k c h t
          ]
    ]

-- and what is in it was in the list, and passes
pub filter-contains : (q : Literal → Bool) (k : Literal) (c : List Literal)
    → contains_literal k (filter q c) ≡ true → (contains_literal k c ≡ true) × (q k ≡ true)
filter-contains q k [] e = absurd (false≢true e)
filter-contains q k (l ∷ c) e =
    elim (q l) as (λ b. q l ≡ b → contains_literal k (if b then l ∷ filter q c else filter q c)
    ≡ true → (contains_literal k (l ∷ c) ≡ true) × (q k ≡ true)) [
      | true ↦ λ t h. elim (or_cases (literal_eq k l) (contains_literal k (filter q c)) h) [
        | inl same ↦ (
          or_left (literal_eq k l) (contains_literal k c) same,
          ap q (literal_eq-true k l same) ∙ t,
        )
        | inr more ↦ let m = filter-contains q k c more in
            (or_right (literal_eq k l) (contains_literal k c) m.0, m.1)
      ]
      | false ↦ λ t h. let m = filter-contains q k c h in
          (or_right (literal_eq k l) (contains_literal k c) m.0, m.1)
    ] refl e

pub without-contains : (p k : Literal) (c : List Literal) → contains_literal k c ≡ true
    → (k ≡ p) ⊎ (contains_literal k (without_literal p c) ≡ true)
without-contains p k c e =
    elim (literal_eq p k) as (λ b. literal_eq p k ≡ b
    → (k ≡ p) ⊎ (contains_literal k (without_literal p c) ≡ true)) [
      | true ↦ λ h. inl (sym (literal_eq-true p k h))
      | false ↦ λ h. inr (contains-filter (λ l. not (literal_eq p l)) k c e (ap not h))
    ] refl

-- a clause without complementary literals that has a literal has not its negation
pub not-complement : (p : Literal) (c : List Literal) → is_tautology c ≡ false
    → contains_literal p c ≡ true → contains_literal (negation p) c ≡ false
not-complement p [] o e = refl
not-complement p (k ∷ c) o e =
    let h = or_parts (contains_literal (negation k) c) (is_tautology c) o in
    elim (or_cases (literal_eq p k) (contains_literal p c) e) [
      | inl same ↦ subst (λ x. contains_literal (negation x) (k ∷ c) ≡ false)
          (sym (literal_eq-true p k same))
          (or_from (literal_eq (negation k) k) (contains_literal (negation k) c)
          (literal_eq-complement k) h.0)
      | inr more ↦ or_from (literal_eq (negation p) k) (contains_literal (negation p) c)
          (false_from_ne_true (literal_eq (negation p) k)
          (λ x. both_ways (contains_literal (negation k) c) h.0
          (contains_same (negation k) p c (ap negation (sym (literal_eq-true (negation p) k x))
          ∙ negation_twice p) ∙ more)))
          (not-complement p c h.1 more)
    ]

pub apart-filter : (q : Literal → Bool) (k : Literal) (c : List Literal)
    → contains_literal k c ≡ false → contains_literal k (filter q c) ≡ false
apart-filter q k c n =
    false_from_ne_true (contains_literal k (filter q c))
    (λ e. both_ways (contains_literal k c) n (filter-contains q k c e).0)

pub has_repeat-filter : (q : Literal → Bool) (c : List Literal) → has_repeat c ≡ false
    → has_repeat (filter q c) ≡ false
has_repeat-filter q [] r = refl
has_repeat-filter q (k ∷ c) r =
    let h = or_parts (contains_literal k c) (has_repeat c) r in
    elim (q k) as (λ b. has_repeat (if b then k ∷ filter q c else filter q c) ≡ false) [
      | true ↦ or_from (contains_literal k (filter q c)) (has_repeat (filter q c))
          (apart-filter q k c h.0) (has_repeat-filter q c h.1)
      | false ↦ has_repeat-filter q c h.1
    ]

pub is_tautology-filter : (q : Literal → Bool) (c : List Literal) → is_tautology c ≡ false
    → is_tautology (filter q c) ≡ false
is_tautology-filter q [] r = refl
is_tautology-filter q (k ∷ c) r =
    let h = or_parts (contains_literal (negation k) c) (is_tautology c) r in
    elim (q k) as (λ b. is_tautology (if b then k ∷ filter q c else filter q c) ≡ false) [
      | true ↦ or_from (contains_literal (negation k) (filter q c)) (is_tautology (filter q c))
          (apart-filter q (negation k) c h.0) (is_tautology-filter q c h.1)
      | false ↦ is_tautology-filter q c h.1
    ]

-- literals whose codes differ
pub codes_differ : (l p : Literal)
    → ((2 * l.variable + (if l.negated then 1 else 0)) ==
    (2 * p.variable + (if p.negated then 1 else 0))) ≡ false → literal_eq l p ≡ false
codes_differ l p h = false_from_ne_true (literal_eq l p) (λ e.
    false≢true (sym h ∙ eq-eqb _ _
    (ap (λ (x : Literal). 2 * x.variable + (if x.negated then 1 else 0))
    (literal_eq-true l p e))))

same_codes : (v w : ℕ) (a b : Bool)
    → ((2 * v + (if a then 1 else 0)) == (2 * w + (if b then 1 else 0))) ≡ true
    → ((w == v) && same_bool b a) ≡ true
same_codes v w true true h =
    let e : 2 * v + 1 ≡ 2 * w + 1 = eqb-true _ _ h in
    and_from _ _ (eq-eqb w v (omega arith)) refl
same_codes v w true false h =
    let e : 2 * v + 1 ≡ 2 * w + 0 = eqb-true _ _ h in absurd (omega arith)
same_codes v w false true h =
    let e : 2 * v + 0 ≡ 2 * w + 1 = eqb-true _ _ h in absurd (omega arith)
same_codes v w false false h =
    let e : 2 * v + 0 ≡ 2 * w + 0 = eqb-true _ _ h in
    and_from _ _ (eq-eqb w v (omega arith)) refl

-- and literals whose codes do not
pub codes_agree : (l p : Literal)
    → ((2 * l.variable + (if l.negated then 1 else 0)) ==
    (2 * p.variable + (if p.negated then 1 else 0))) ≡ true → literal_eq p l ≡ true
codes_agree l p h = same_codes l.variable p.variable l.negated p.negated h

pub literal_eq-sides : (k l : Literal) → literal_eq k l ≡ false → literal_eq l k ≡ false
literal_eq-sides k l n =
    false_from_ne_true (literal_eq l k)
    (λ e. both_ways (literal_eq k l) n
    (subst (λ x. literal_eq k x ≡ true) (sym (literal_eq-true l k e)) (literal_eq-refl k)))

pub greatest-filter : (q : Literal → Bool) (c : List Literal)
    → greatest_variable (filter q c) ≤ greatest_variable c
greatest-filter q [] = omega arith
greatest-filter q (k ∷ c) =
    let h = greatest-filter q c in
    elim (q k) as (λ b. greatest_variable (if b then k ∷ filter q c else filter q c)
    ≤ greatest_variable (k ∷ c)) [
      | true ↦ omega arith
      | false ↦ omega arith
    ]

pub member-small : (l : Literal) (c : List Literal) → contains_literal l c ≡ true
    → l.variable ≤ greatest_variable c
member-small l [] e = absurd (false≢true e)
member-small l (k ∷ c) e =
    elim (or_cases (literal_eq l k) (contains_literal l c) e) [
      | inl h ↦ subst (λ (x : Literal). x.variable ≤ greatest_variable (k ∷ c))
          (sym (literal_eq-true l k h))
          (let m : k.variable ≤ max k.variable (greatest_variable c) = omega arith in m)
      | inr h ↦ omega (arith, member-small l c h)
    ]

pub value-filter : (t : Assignment) (q : Literal → Bool) (c : List Literal)
    → clause_value t (filter q c) ≡ true → clause_value t c ≡ true
value-filter t q [] e = e
value-filter t q (k ∷ c) e =
    elim (q k) as (λ b. clause_value t (if b then k ∷ filter q c else filter q c) ≡ true
    → clause_value t (k ∷ c) ≡ true) [
      | true ↦ λ h. elim (or_cases (literal_value t k) (clause_value t (filter q c)) h) [
        | inl m ↦ or_left (literal_value t k) (clause_value t c) m
        | inr m ↦ or_right (literal_value t k) (clause_value t c) (value-filter t q c m)
      ]
      | false ↦ λ h. or_right (literal_value t k) (clause_value t c) (value-filter t q c h)
    ] e

pub any_member : (q : Literal → Bool) (k : Literal) (w : List Literal) → contains_literal k w ≡ true
    → q k ≡ true → list_any q w ≡ true
any_member q k [] e t = e
any_member q k (l ∷ w) e t =
    elim (or_cases (literal_eq k l) (contains_literal k w) e) [
      | inl same ↦ or_left (q l) (list_any q w)
          (subst (λ x. q x ≡ true) (literal_eq-true k l same) t)
      | inr more ↦ or_right (q l) (list_any q w) (any_member q k w more t)
    ]
