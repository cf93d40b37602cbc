-- A certificate with each kind of line is accepted, so the law of certificates is not about
-- nothing.
use Rattle.std.proofs.Common.{◌≡◌, ℕ, zero, suc, ◌^◌, ◌<◌, Bool, true, false, List, [], ◌∷◌, Some}
use Rattle.std.proofs.Common.{inl, inr, refl, sym, arith}
use Rattle.std.specs.Prelude.{Contains}
use Rattle.std.proofs.lemmas.Bool.{false≢true, cases_eq, ne_eqb}
use Rattle.std.proofs.lemmas.Option.{none-some, same_Some}
use Rattle.std.specs.List.{IsDistinct}
use Rattle.cnf.specs.Literal.{Literal, negation}
use Rattle.cnf.specs.Clause.{contains_literal, has_repeat, is_tautology, greatest_variable}
use Rattle.cnf.specs.Formula.{numbered}
use Rattle.cnf.specs.Refute.{Refutes}
use Rattle.cnf.specs.Lrat.{CandidateHints, ProofLine, Addition, Deletion, Live, start_of}
use Rattle.cnf.specs.Lrat.{with_clause, without_ids, IsAddable, IsRat, Step, Accepts}

abbrev p1 : Literal
p1 = record { variable = 1; negated = false }

abbrev p2 : Literal
p2 = record { variable = 2; negated = false }

abbrev formula : List (List Literal)
formula = (p1 ∷ []) ∷ (negation p1 ∷ []) ∷ []

-- no clause of the formula has variable 2
not_in : (s : Bool) (i : ℕ) (d : List Literal) → numbered formula i ≡ Some d
    → contains_literal (record { variable = 2; negated = s }) d ≡ true → ⊥
not_in s zero d e h = none-some d e
not_in s (suc zero) d e h = false≢true (rw (sym (same_Some (p1 ∷ []) d e)) at h)
not_in s (suc (suc zero)) d e h = false≢true (rw (sym (same_Some (negation p1 ∷ []) d e)) at h)
not_in s (suc (suc (suc i))) d e h = none-some d e

abbrev fresh : ProofLine
fresh = Addition 3 (p2 ∷ []) [] []

abbrev live3 : Live
live3 = with_clause (start_of formula) 3 (p2 ∷ [])

rat3 : IsRat (numbered formula) (p2 ∷ []) [] []
rat3 = record {
  pivot = p2;
  others = [];
  first = refl;
  reached = negation p2 ∷ [];
  leads = refl;
  rising = λ k h. absurd (omega arith);
  complete = λ i. (λ c. absurd (omega (arith, c.1)), λ x. absurd (not_in true i x.0 x.1 x.2));
  each = tt;
}

abbrev group : CandidateHints
group = record { candidate = 3; hints = 1 ∷ [] }

abbrev resolved : ProofLine
resolved = Addition 4 (negation p2 ∷ p1 ∷ []) [] (group ∷ [])

abbrev live4 : Live
live4 = with_clause live3 4 (negation p2 ∷ p1 ∷ [])

only3 : (i : ℕ) → Contains (3 ∷ []) i → i ≡ 3
only3 i (zero, l, e) = sym e
only3 i (suc k, l, e) = absurd (omega arith)

rat4 : IsRat live3.clause_at (negation p2 ∷ p1 ∷ []) [] (group ∷ [])
rat4 = record {
  pivot = negation p2;
  others = p1 ∷ [];
  first = refl;
  reached = p2 ∷ negation p1 ∷ [];
  leads = refl;
  rising = λ k h. absurd (omega arith);
  complete = λ i. (
    λ c. rw (only3 i c) (p2 ∷ [], refl, refl),
    λ x. elim (cases_eq i 3) [
      | inl e ↦ (0, omega arith, sym e)
      | inr n ↦ absurd (not_in false i x.0 (rw (ne_eqb i 3 n) at x.1) x.2)
    ],
  );
  each = (
    (
      p2 ∷ [],
      refl,
      inr (
        refl,
        record {
          front = [];
          final = 1;
          split = refl;
          reached = p2 ∷ negation p1 ∷ [];
          leads = refl;
          clause = p1 ∷ [];
          live = refl;
          conflict = (refl, tt);
        },
      ),
    ),
    tt,
  );
}

abbrev dropped : ProofLine
dropped = Deletion 4 (4 ∷ [])

abbrev live5 : Live
live5 = without_ids live4 (4 ∷ [])

rup : Refutes live5.clause_at [] (1 ∷ 2 ∷ [])
rup = record {
  front = 1 ∷ [];
  final = 2;
  split = refl;
  reached = p1 ∷ [];
  leads = (
    p1 ∷ [],
    p1,
    refl,
    record {
      member = refl;
      not_true = refl;
      not_false = refl;
      others = (inl refl, tt);
    },
    refl,
  );
  clause = negation p1 ∷ [];
  live = refl;
  conflict = (refl, tt);
}

addable : (live : Live) (id : ℕ) (c : List Literal) → live.last < id → has_repeat c ≡ false
    → is_tautology c ≡ false → greatest_variable c < 2 ^ 27 → IsAddable live id c
addable live id c r n o g = record { rising = r; no_repeat = n; no_tautology = o; small = g }

step3 : Step (start_of formula) fresh live3
step3 = (
  addable (start_of formula) 3 (p2 ∷ []) (omega arith) refl refl (omega arith),
  inr rat3,
  refl,
)

step4 : Step live3 resolved live4
step4 = (
  addable live3 4 (negation p2 ∷ p1 ∷ []) (omega arith) refl refl (omega arith),
  inr rat4,
  refl,
)

step5 : Step live4 dropped live5
unfolding IsDistinct
step5 = ((tt, tt), ((negation p2 ∷ p1 ∷ [], refl), tt), refl)

step6 : Step live5 (Addition 5 [] (1 ∷ 2 ∷ []) []) (with_clause live5 5 [])
step6 = (addable live5 5 [] (omega arith) refl refl (omega arith), inl (refl, rup), refl)

pub accepted : Accepts formula (fresh ∷ resolved ∷ dropped ∷ Addition 5 [] (1 ∷ 2 ∷ []) [] ∷ [])
accepted = record {
  front = fresh ∷ resolved ∷ dropped ∷ [];
  final = Addition 5 [] (1 ∷ 2 ∷ []) [];
  split = refl;
  ends = refl;
  not_before = (refl, (refl, (refl, tt)));
  left = with_clause live5 5 [];
  chain = (live3, step3, (live4, step4, (live5, step5, (with_clause live5 5 [], step6, refl))));
}
