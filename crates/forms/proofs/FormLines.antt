-- Form lines, and their facts one after another.
use Rattle.std.proofs.Common.{◌≡◌, ℕ, zero, suc, ◌+◌, ◌-◌, ◌≤◌, false, List, []}
use Rattle.std.proofs.Common.{◌∷◌}
use Rattle.std.proofs.Common.{get_or, refl, sym, ◌∙◌, ap, subst, arith, Some, None, inl}
use Rattle.std.proofs.Common.{inr}
use Rattle.std.specs.Prelude.{Option, IfSome, slice_get}
use Rattle.std.specs.Option.{option_map}
use Rattle.std.proofs.lemmas.Bool.{cases_Bool}
use Rattle.std.proofs.lemmas.Option.{slice_get-map, get_or_from_slice_get}
use Rattle.std.proofs.Math.Seq.{map-set_same}
use Rattle.cnf.specs.Refute.{Clauses}
use Rattle.cnf.specs.Literal.{Literal}
use Rattle.forms.specs.declared.types.NamedFact.{NamedFact}
use Rattle.forms.specs.declared.faults.TheConstants.{MOST_TERMS}
use Rattle.forms.specs.Forms.{Forms, Numbered, Count, Group, at_number, cited, cleared}
use Rattle.forms.specs.Forms.{clause_size}
use Rattle.forms.specs.Forms.{fact_size, facts_size, less_fact}
use Rattle.forms.specs.Forms.{less_numbered, numbered_size, without_multiplier}
use Rattle.forms.specs.Answers.{HasFactRoom}

-- sizes do not depend on multipliers
size_cleared : (n : Numbered) → numbered_size (without_multiplier n) ≡ numbered_size n
size_cleared (Count inputs tree multiplier) = refl
size_cleared (Group inputs) = refl

found_cleared : (ns : List Numbered) (j : ℕ)
    → option_map numbered_size (at_number (cleared ns) j)
    ≡ option_map numbered_size (at_number ns j)
found_cleared ns zero = refl
found_cleared ns (suc j) =
    ap (option_map numbered_size) (slice_get-map without_multiplier ns j) ∙ by (slice_get ns j)
  where
    by : (o : Option Numbered)
        → option_map numbered_size (option_map without_multiplier o) ≡ option_map numbered_size o
    by None = refl
    by (Some n) = ap (λ x. Some x) (size_cleared n)

fact_cleared : (at : Clauses) (ns : List Numbered) (f : NamedFact)
    → fact_size at (cleared ns) f ≡ fact_size at ns f
fact_cleared at ns f =
    elim (cases_Bool f.is_numbered) [
      | inl y ↦ rw y (found_cleared ns f.number)
      | inr n ↦ rw n refl
    ]

pub facts_cleared : (at : Clauses) (ns : List Numbered) (fs : List NamedFact)
    → facts_size at (cleared ns) fs ≡ facts_size at ns fs
facts_cleared at ns [] = refl
facts_cleared at ns (f ∷ fs) = rw (fact_cleared at ns f, facts_cleared at ns fs) refl

pub facts_same : (at : Clauses) (ns ms : List Numbered) (fs : List NamedFact)
    → cleared ms ≡ cleared ns → facts_size at ms fs ≡ facts_size at ns fs
facts_same at ns ms fs e =
    sym (facts_cleared at ms fs) ∙ ap (λ x. facts_size at x fs) e ∙ facts_cleared at ns fs

cited_cleared : (w : ℕ) (n : Numbered) → without_multiplier (cited w n) ≡ without_multiplier n
cited_cleared w (Count inputs tree multiplier) = refl
cited_cleared w (Group inputs) = refl

-- a fact changes multipliers alone
numbered_cleared : (w j : ℕ) (s : Forms)
    → cleared (less_numbered w j s).numbered ≡ cleared s.numbered
numbered_cleared w zero s = refl
numbered_cleared w (suc i) s = by (slice_get s.numbered i) refl
  where
    by : (o : Option Numbered) → slice_get s.numbered i ≡ o
        → cleared (less_numbered w (suc i) s).numbered ≡ cleared s.numbered
    by None e = rw e refl
    by (Some n) e =
        let place : suc i - 1 ≡ i = omega arith in
        let here : get_or s.numbered (suc i - 1) n ≡ n =
        ap (λ k. get_or s.numbered k n) place ∙ get_or_from_slice_get s.numbered i n n e in
        rw e (map-set_same without_multiplier s.numbered (suc i - 1) (cited w n) n
        (cited_cleared w n ∙ ap without_multiplier (sym here)))

pub less_cleared : (at : Clauses) (s : Forms) (f : NamedFact)
    → cleared (less_fact at s f).numbered ≡ cleared s.numbered
less_cleared at s f =
    elim (cases_Bool f.is_numbered) [
      | inl y ↦ rw y (numbered_cleared f.weight f.number s)
      | inr n ↦ rw n (by (at f.number) refl)
    ]
  where
    by : (o : Option (List Literal)) → at f.number ≡ o
        → cleared (less_fact at s (record f { is_numbered = false })).numbered ≡ cleared s.numbered
    by None e = rw e refl
    by (Some c) e = rw e refl

some_is : (m n : ℕ) → ◌≡◌ {A = Option ℕ} (Some m) (Some n) → m ≡ n
some_is m n e = cc

numbered_terms : (w j k : ℕ) (s : Forms)
    → option_map numbered_size (at_number s.numbered j) ≡ Some k
    → (less_numbered w j s).terms ≡ s.terms + k
numbered_terms w j k s h = by (at_number s.numbered j) refl
  where
    by : (o : Option Numbered) → at_number s.numbered j ≡ o
        → (less_numbered w j s).terms ≡ s.terms + k
    by None e = let bad = rw e at h in cc
    by (Some n) e =
        let same : numbered_size n ≡ k = some_is (numbered_size n) k (rw e at h) in
        rw e (ap (λ m. s.terms + m) same)

clause_terms : (w k : ℕ) (at : Clauses) (j : ℕ) (s : Forms)
    → option_map clause_size (at j) ≡ Some k
    → (less_fact at s (record { weight = w; is_numbered = false; number = j })).terms ≡ s.terms + k
clause_terms w k at j s h = by (at j) refl
  where
    by : (o : Option (List Literal)) → at j ≡ o
        → (less_fact at s (record { weight = w; is_numbered = false; number = j })).terms
        ≡ s.terms + k
    by None e = let bad = rw e at h in cc
    by (Some c) e =
        let same : clause_size c ≡ k = some_is (clause_size c) k (rw e at h) in
        rw e (ap (λ m. s.terms + m) same)

pub less_terms : (at : Clauses) (s : Forms) (f : NamedFact) (k : ℕ)
    → fact_size at s.numbered f ≡ Some k → (less_fact at s f).terms ≡ s.terms + k
less_terms at s f k h =
    elim (cases_Bool f.is_numbered) [
      | inl y ↦ rw y (numbered_terms f.weight f.number k s (rw y at h))
      | inr n ↦ rw n (clause_terms f.weight k at f.number s (rw n at h))
    ]

-- there is room for a fact, and then for the others
pub room_first : (at : Clauses) (s : Forms) (f : NamedFact) (fs : List NamedFact)
    → HasFactRoom at s (f ∷ fs)
    → IfSome (fact_size at s.numbered f) (λ n. s.terms + n ≤ MOST_TERMS)
    × HasFactRoom at (less_fact at s f) fs
room_first at s f fs (n, e, le) =
    by (fact_size at s.numbered f) (facts_size at s.numbered fs) refl refl
  where
    by : (o r : Option ℕ) → fact_size at s.numbered f ≡ o → facts_size at s.numbered fs ≡ r
        → IfSome (fact_size at s.numbered f) (λ n. s.terms + n ≤ MOST_TERMS)
        × HasFactRoom at (less_fact at s f) fs
    by None r p q = let bad = rw p at e in cc
    by (Some k) None p q = let bad = rw (p, q) at e in cc
    by (Some k) (Some m) p q =
        let sum : k + m ≡ n = some_is (k + m) n (rw (p, q) at e) in
        let terms = less_terms at s f k p in (
          subst (λ o. IfSome o (λ n. s.terms + n ≤ MOST_TERMS)) (sym p) (omega arith),
          (
            m,
            facts_same at s.numbered (less_fact at s f).numbered fs (less_cleared at s f) ∙ q,
            omega arith,
          ),
        )
