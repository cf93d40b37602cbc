-- What an assignment makes true, hints keep true.
use Rattle.std.proofs.Common.{◌≡◌, ℕ, Bool, true, false, not, List, [], ◌∷◌, map, Some, ◌⊎◌, inl}
use Rattle.std.proofs.Common.{inr, refl, sym, subst}
use Rattle.std.specs.Prelude.{if◌then◌else◌, ◌==◌}
use Rattle.std.specs.List.{AllByRecursion}
use Rattle.std.proofs.lemmas.Bool.{and_parts, or_cases, both_ways, eqb-true, false≢true, true≢false}
use Rattle.std.proofs.lemmas.Bool.{or_parts}
use Rattle.cnf.specs.Literal.{Literal, Assignment, negation, literal_value, literal_eq, same_bool}
use Rattle.cnf.specs.Clause.{Satisfies, clause_value, contains_literal}
use Rattle.cnf.specs.Refute.{IsFalseUnder, Clauses, Leads, Refutes}

same_bool-true : (a b : Bool) → same_bool a b ≡ true → a ≡ b
same_bool-true true true e = refl
same_bool-true true false e = absurd (false≢true e)
same_bool-true false true e = absurd (false≢true e)
same_bool-true false false e = refl

pub literal_eq-true : (k l : Literal) → literal_eq k l ≡ true → k ≡ l
literal_eq-true k l e =
    let h = and_parts (k.variable == l.variable) (same_bool k.negated l.negated) e in
    λ i. record {
      variable = eqb-true k.variable l.variable h.0 i;
      negated = same_bool-true k.negated l.negated h.1 i;
    }

-- each literal of A is true
abbrev pub AreTrue : Assignment → List Literal → Type 0
AreTrue t A = AllByRecursion (λ l. literal_value t l ≡ true) A

pub true_member : (t : Assignment) (A : List Literal) (l : Literal) → AreTrue t A
    → contains_literal l A ≡ true → literal_value t l ≡ true
true_member t [] l a e = absurd (false≢true e)
true_member t (k ∷ A) l a e =
    elim (or_cases (literal_eq l k) (contains_literal l A) e) [
      | inl h ↦ subst (λ m. literal_value t m ≡ true) (sym (literal_eq-true l k h)) a.0
      | inr h ↦ true_member t A l a.1 h
    ]

value-negation_at : (v : Bool) (n : Bool) → (if not n then not v else v) ≡ true
    → (if n then not v else v) ≡ false
value-negation_at true true e = refl
value-negation_at true false e = absurd (false≢true e)
value-negation_at false true e = absurd (false≢true e)
value-negation_at false false e = refl

pub value-negation : (t : Assignment) (l : Literal) → literal_value t (negation l) ≡ true
    → literal_value t l ≡ false
value-negation t l e = value-negation_at (t l.variable) l.negated e

-- a clause that is true, and all but l of it false
pub unit_true : (t : Assignment) (A : List Literal) (l : Literal) (c : List Literal) → AreTrue t A
    → AllByRecursion (λ k. (k ≡ l) ⊎ (contains_literal (negation k) A ≡ true)) c
    → clause_value t c ≡ true → literal_value t l ≡ true
unit_true t A l [] a o e = absurd (false≢true e)
unit_true t A l (k ∷ c) a o e =
    elim (or_cases (literal_value t k) (clause_value t c) e) [
      | inr h ↦ unit_true t A l c a o.1 h
      | inl h ↦ elim o.0 [
        | inl same ↦ subst (λ m. literal_value t m ≡ true) same h
        | inr contrary ↦ absurd (both_ways _
            (value-negation t k (true_member t A (negation k) a contrary)) h)
      ]
    ]

pub not_false : (t : Assignment) (A c : List Literal) → AreTrue t A → IsFalseUnder c A
    → clause_value t c ≡ true → ⊥
not_false t A [] a f e = false≢true e
not_false t A (k ∷ c) a f e =
    elim (or_cases (literal_value t k) (clause_value t c) e) [
      | inr h ↦ not_false t A c a f.1 h
      | inl h ↦ both_ways _ (value-negation t k (true_member t A (negation k) a f.0)) h
    ]

-- each clause that stands is true
abbrev pub AllHold : Assignment → Clauses → Type 0
AllHold t at = (i : ℕ) (c : List Literal) → at i ≡ Some c → Satisfies t c

pub leads_true : (t : Assignment) (at : Clauses) (A : List Literal) (hs : List ℕ) (B : List Literal)
    → AllHold t at → AreTrue t A → Leads at A hs B → AreTrue t B
leads_true t at A [] B all a e = subst (AreTrue t) (sym e) a
leads_true t at A (h ∷ hs) B all a w =
    leads_true t at (w.1 ∷ A) hs B all (unit_true t A w.1 w.0 a w.3.others (all h w.0 w.2), a) w.4

pub refuted : (t : Assignment) (at : Clauses) (A : List Literal) (hs : List ℕ) → AllHold t at
    → AreTrue t A → Refutes at A hs → ⊥
refuted t at A hs all a r =
    not_false t r.reached r.clause (leads_true t at A r.front r.reached all a r.leads) r.conflict
    (all r.final r.clause r.live)

negation-value_at : (v : Bool) (n : Bool) → (if n then not v else v) ≡ false
    → (if not n then not v else v) ≡ true
negation-value_at true true e = refl
negation-value_at true false e = absurd (true≢false e)
negation-value_at false true e = absurd (true≢false e)
negation-value_at false false e = refl

pub negation-value : (t : Assignment) (l : Literal) → literal_value t l ≡ false
    → literal_value t (negation l) ≡ true
negation-value t l e = negation-value_at (t l.variable) l.negated e

pub negations_true : (t : Assignment) (c : List Literal) → clause_value t c ≡ false
    → AreTrue t (map negation c)
negations_true t [] e = tt
negations_true t (l ∷ c) e =
    let h = or_parts (literal_value t l) (clause_value t c) e in
    (negation-value t l h.0, negations_true t c h.1)

-- a clause that is added by RUP is true wherever the others are
pub rup_holds : (t : Assignment) (at : Clauses) (c : List Literal) (hs : List ℕ) → AllHold t at
    → Refutes at (map negation c) hs → Satisfies t c
rup_holds t at c hs all r =
    elim (clause_value t c) as (λ v. clause_value t c ≡ v → v ≡ true) [
      | true ↦ λ e. refl
      | false ↦ λ e. absurd (refuted t at (map negation c) hs all (negations_true t c e) r)
    ] refl
