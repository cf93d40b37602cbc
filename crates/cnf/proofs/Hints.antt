-- Hints: their numbers, and that they ask only which literals are true, not in which order they
-- became so.
use Rattle.std.proofs.Common.{◌≡◌, ℕ, true, ◌||◌, List, [], ◌∷◌, ◌++◌, ◌⊎◌, inl, inr, refl, sym}
use Rattle.std.proofs.Common.{◌∙◌, ap, append_assoc, subst}
use Rattle.std.specs.Prelude.{All}
use Rattle.cnf.specs.Literal.{Literal, negation, literal_eq}
use Rattle.cnf.specs.Clause.{contains_literal, HaveSame}
use Rattle.cnf.specs.Lrat.{CandidateHints, IsId}
use Rattle.cnf.specs.Refute.{IsUnit, IsFalseUnder, Clauses, Leads, Refutes}
use Rattle.cnf.proofs.Lists.{all_weaker}

abbrev pub GroupHasIds : CandidateHints → Type 0
GroupHasIds g = IsId g.candidate × All IsId g.hints

pub unit_same : (c A B : List Literal) (l : Literal) → HaveSame A B → IsUnit c A l → IsUnit c B l
unit_same c A B l same u = record {
  member = u.member;
  not_true = sym (same l) ∙ u.not_true;
  not_false = sym (same (negation l)) ∙ u.not_false;
  others =
      all_weaker (λ k. (k ≡ l) ⊎ (contains_literal (negation k) A ≡ true))
      (λ k. (k ≡ l) ⊎ (contains_literal (negation k) B ≡ true)) c
      (λ k h. elim h [ inl e ↦ inl e | inr e ↦ inr (sym (same (negation k)) ∙ e) ]) u.others;
}

pub false_same : (c A B : List Literal) → HaveSame A B → IsFalseUnder c A → IsFalseUnder c B
false_same c A B same h =
    all_weaker (λ k. contains_literal (negation k) A ≡ true)
    (λ k. contains_literal (negation k) B ≡ true) c
    (λ k e. sym (same (negation k)) ∙ e) h

pub more_same : (A B : List Literal) (l : Literal) → HaveSame A B → HaveSame (l ∷ A) (l ∷ B)
more_same A B l same k = ap (λ b. literal_eq k l || b) (same k)

pub leads_same : (at : Clauses) (A B : List Literal) (hs : List ℕ) (C : List Literal) → HaveSame A B
    → Leads at A hs C → (D : List Literal) × Leads at B hs D × HaveSame C D
leads_same at A B [] C same e = (B, refl, λ l. ap (contains_literal l) e ∙ same l)
leads_same at A B (h ∷ hs) C same w =
    let rest = leads_same at (w.1 ∷ A) (w.1 ∷ B) hs C (more_same A B w.1 same) w.4 in
    (rest.0, (w.0, w.1, w.2, unit_same w.0 A B w.1 same w.3, rest.1), rest.2)

pub leads_join : (at : Clauses) (A : List Literal) (hs : List ℕ) (B : List Literal) (js : List ℕ)
    (C : List Literal) → Leads at A hs B → Leads at B js C → Leads at A (hs ++ js) C
leads_join at A [] B js C e w = subst (λ X. Leads at X js C) e w
leads_join at A (h ∷ hs) B js C v w = (v.0, v.1, v.2, v.3, leads_join at (v.1 ∷ A) hs B js C v.4 w)

-- hints that lead to literals with which others refute
pub refutes_after : (at : Clauses) (A : List Literal) (units : List ℕ) (B C : List Literal)
    (hints : List ℕ) → Leads at A units B → HaveSame C B → Refutes at C hints
    → Refutes at A (units ++ hints)
refutes_after at A units B C hints leads same r =
    let moved = leads_same at C B r.front r.reached same r.leads in
    record {
      front = units ++ r.front;
      final = r.final;
      split = ap (λ x. units ++ x) r.split ∙ sym (append_assoc units r.front (r.final ∷ []));
      reached = moved.0;
      leads = leads_join at A units B r.front moved.0 leads moved.1;
      clause = r.clause;
      live = r.live;
      conflict = false_same r.clause r.reached moved.0 moved.2 r.conflict;
    }
