-- A fresh variable z, defined as 'a or b', and the clauses in which z takes the place of a and b.
use Rattle.std.proofs.Common.{◌≡◌, ℕ, true, false, not, ◌<◌, ◌^◌, max, List, [], ◌∷◌}
use Rattle.std.proofs.Common.{map, Some, inl, refl, sym, ap, subst, arith}
use Rattle.std.specs.Prelude.{◌==◌}
use Rattle.std.proofs.lemmas.Bool.{or_left, or_right, or_from, and_left, and_right, both_ways}
use Rattle.std.proofs.lemmas.Bool.{ne_eqb}
use Rattle.cnf.specs.Literal.{Literal, negation, literal_eq, same_bool}
use Rattle.cnf.specs.Clause.{contains_literal, without_literal, has_repeat, is_tautology}
use Rattle.cnf.specs.Refute.{Clauses}
use Rattle.cnf.specs.Lrat.{CandidateHints, Live, IsAddable, IsRat}
use Rattle.eliminate_pairs.specs.Pairs.{positive, whole_clause, side_clause}
use Rattle.cnf.proofs.Laws.{literal_eq-refl, contains_one}
use Rattle.cnf.proofs.Laws.{any_member, negation_twice, contains-filter}

-- no live clause has the variable
abbrev pub IsFreshIn : ℕ → Clauses → Type 0
IsFreshIn z at = (i : ℕ) (d : List Literal) → at i ≡ Some d
    → (contains_literal (positive z) d ≡ false)
    × (contains_literal (negation (positive z)) d ≡ false)

-- two literals on two variables, neither of which is z
pub record IsPairFor (z : ℕ) (a b : Literal) : Type 0 where
  pub not_a : z ≡ a.variable → ⊥
  pub not_b : z ≡ b.variable → ⊥
  pub two : a.variable ≡ b.variable → ⊥
  pub small : max z (max a.variable b.variable) < 2 ^ 27

abbrev pub group_for : ℕ → CandidateHints
group_for i = record { candidate = i; hints = [] }

pub other_variable : (k l : Literal) → (k.variable ≡ l.variable → ⊥) → literal_eq k l ≡ false
other_variable k l n =
    and_left (k.variable == l.variable) (same_bool k.negated l.negated)
    (ne_eqb k.variable l.variable n)

-- the first line has no candidates
pub first_rat : (at : Clauses) (z : ℕ) (a b : Literal) → IsFreshIn z at
    → IsRat at (whole_clause z a b) [] []
first_rat at z a b fresh = record {
  pivot = negation (positive z);
  others = a ∷ b ∷ [];
  first = refl;
  reached = map negation (whole_clause z a b);
  leads = refl;
  rising = λ k h. absurd (omega arith);
  complete =
      λ i. (
        λ c. absurd (omega (arith, c.1)),
        λ x. absurd (both_ways (contains_literal (positive z) x.0) (fresh i x.0 x.1).0 x.2),
      );
  each = tt;
}

-- a line z or not a, where the first line is the one clause with the negation of z
pub side_rat : (at : Clauses) (z : ℕ) (a : Literal) (i : ℕ) (c : List Literal) → at i ≡ Some c
    → contains_literal (negation (positive z)) c ≡ true → contains_literal a c ≡ true
    → (z ≡ a.variable → ⊥)
    → ((j : ℕ) (d : List Literal) → at j ≡ Some d → contains_literal (negation (positive z)) d
    ≡ true → j ≡ i)
    → IsRat at (side_clause z a) [] (group_for i ∷ [])
side_rat at z a i c live has has_a other only = record {
  pivot = positive z;
  others = negation a ∷ [];
  first = refl;
  reached = map negation (side_clause z a);
  leads = refl;
  rising = λ k h. absurd (omega arith);
  complete = λ j. (
    λ h. rw (contains_one i j h) (c, live, has),
    λ x. (0, omega arith, sym (only j x.0 x.1 x.2)),
  );
  each = (
    (
      c,
      live,
      inl (
        any_member (λ k. contains_literal k (map negation (side_clause z a))) a
            (without_literal (negation (positive z)) c)
            (contains-filter (λ k. not (literal_eq (negation (positive z)) k)) a c has_a
            (ap not (other_variable (negation (positive z)) a other)))
            (or_right (literal_eq a (negation (positive z)))
            (contains_literal a (negation (negation a) ∷ []))
            (or_left (literal_eq a (negation (negation a))) false
            (subst (λ x. literal_eq a x ≡ true) (sym (negation_twice a)) (literal_eq-refl a)))),
        refl,
      ),
    ),
    tt,
  );
}

pub side_lacks : (z : ℕ) (a : Literal) → (z ≡ a.variable → ⊥)
    → contains_literal (negation (positive z)) (side_clause z a) ≡ false
side_lacks z a other =
    or_from (literal_eq (negation (positive z)) (positive z))
    (contains_literal (negation (positive z)) (negation a ∷ []))
    (and_right (z == z) false refl) (or_from (literal_eq (negation (positive z)) (negation a)) false
    (other_variable (negation (positive z)) (negation a) other) refl)

pub first_addable : (live : Live) (id z : ℕ) (a b : Literal) → live.last < id → IsPairFor z a b
    → IsAddable live id (whole_clause z a b)
first_addable live id z a b rising p = record {
  rising = rising;
  no_repeat =
      or_from (contains_literal (negation (positive z)) (a ∷ b ∷ [])) (has_repeat (a ∷ b ∷ []))
      (or_from (literal_eq (negation (positive z)) a)
      (contains_literal (negation (positive z)) (b ∷ []))
      (other_variable (negation (positive z)) a p.not_a)
      (or_from (literal_eq (negation (positive z)) b) false
      (other_variable (negation (positive z)) b p.not_b) refl))
      (or_from (contains_literal a (b ∷ [])) false
      (or_from (literal_eq a b) false (other_variable a b p.two) refl) refl);
  no_tautology = or_from (contains_literal (positive z) (a ∷ b ∷ [])) (is_tautology (a ∷ b ∷ []))
      (or_from (literal_eq (positive z) a) (contains_literal (positive z) (b ∷ []))
      (other_variable (positive z) a p.not_a)
      (or_from (literal_eq (positive z) b) false (other_variable (positive z) b p.not_b) refl))
      (or_from (contains_literal (negation a) (b ∷ [])) false
      (or_from (literal_eq (negation a) b) false (other_variable (negation a) b p.two) refl)
      refl);
  small = omega (arith, p.small);
}

pub side_addable : (live : Live) (id z : ℕ) (a : Literal) → live.last < id → (z ≡ a.variable → ⊥)
    → z < 2 ^ 27 → a.variable < 2 ^ 27 → IsAddable live id (side_clause z a)
side_addable live id z a rising other few few_too = record {
  rising = rising;
  no_repeat =
      or_from (contains_literal (positive z) (negation a ∷ [])) false
      (or_from (literal_eq (positive z) (negation a)) false
      (other_variable (positive z) (negation a) other) refl) refl;
  no_tautology =
      or_from (contains_literal (negation (positive z)) (negation a ∷ [])) false
      (or_from (literal_eq (negation (positive z)) (negation a)) false
      (other_variable (negation (positive z)) (negation a) other) refl) refl;
  small = omega arith;
}
