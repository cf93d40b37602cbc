-- Complementary literals, as the literals are walked and marked, and what they make true.
use Rattle.std.proofs.Common.{◌≡◌, ℕ, ◌+◌, ◌<◌, Bool, true, false, not, ◌&&◌, ◌||◌, List, []}
use Rattle.std.proofs.Common.{◌∷◌, ◌++◌, length, take, get_or, set, inl, inr, refl, sym, ◌∙◌, ap}
use Rattle.std.proofs.Common.{subst}
use Rattle.std.proofs.lemmas.Bool.{false≢true, or_left, or_right, or_cases, cases_Bool}
use Rattle.std.proofs.lemmas.List.{take_more}
use Rattle.std.proofs.lemmas.List.Folds.{list_any-append}
use Rattle.cnf.specs.Literal.{Literal, Assignment, negation, literal_value, literal_eq, same_bool}
use Rattle.cnf.specs.Literal.{index_of}
use Rattle.cnf.specs.Clause.{clause_value, contains_literal, is_tautology}
use Rattle.cnf.specs.Marks.{mark_of, IsMarked, HasPlace}
use Rattle.cnf.proofs.Marking.{marked_one}
use Rattle.cnf.proofs.Numbers.{same_number}
use Rattle.cnf.proofs.Sound.{literal_eq-true, negation-value}

complement_eq : (k l : Literal) → literal_eq (negation k) l ≡ literal_eq (negation l) k
complement_eq k l = λ i. same_number k.variable l.variable i && by k.negated l.negated i
  where
    by : (a b : Bool) → same_bool (not a) b ≡ same_bool (not b) a
    by true true = refl
    by true false = refl
    by false true = refl
    by false false = refl

-- one more literal, at the end
pub tautologies-more : (c : List Literal) (l : Literal)
    → is_tautology (c ++ l ∷ []) ≡ (is_tautology c || contains_literal (negation l) c)
tautologies-more [] l = refl
tautologies-more (k ∷ c) l =
    (λ i. list_any-append (literal_eq (negation k)) c (l ∷ []) i || tautologies-more c l i)
    ∙ ap (λ b. (contains_literal (negation k) c || (b || false)) ||
    (is_tautology c || contains_literal (negation l) c)) (complement_eq k l)
    ∙ by (contains_literal (negation k) c) (literal_eq (negation l) k) (is_tautology c)
    (contains_literal (negation l) c)
  where
    by : (a b c d : Bool) → ((a || (b || false)) || (c || d)) ≡ ((a || c) || (b || d))
    by true b c d = refl
    by false true true d = refl
    by false true false d = refl
    by false false c d = refl

-- a step of the walk that marks
pub mark_step : (marks : List Bool) (found : Bool) (lits : List Literal) (i : ℕ) (l : Literal)
    → i < length lits → l ≡ get_or lits i l → HasPlace (length marks) l
    → IsMarked marks (take i lits) × (found ≡ is_tautology (take i lits))
    → IsMarked (set marks (index_of l) true) (take (i + 1) lits)
    × ((found || mark_of marks (negation l)) ≡ is_tautology (take (i + 1) lits))
mark_step marks found lits i l h is p inv =
    let more : take (i + 1) lits ≡ take i lits ++ l ∷ [] =
    take_more lits i l h ∙ ap (λ x. take i lits ++ x ∷ []) (sym is) in (
      subst (IsMarked (set marks (index_of l) true)) (sym more)
          (marked_one marks (take i lits) l p inv.0),
      (λ j. inv.1 j || mark_of marks (negation l))
          ∙ ap (λ b. is_tautology (take i lits) || b) (inv.0.marked (negation l) p.0)
          ∙ sym (tautologies-more (take i lits) l) ∙ ap is_tautology (sym more),
    )

pub contained_true : (t : Assignment) (l : Literal) (c : List Literal) → contains_literal l c ≡ true
    → literal_value t l ≡ true → clause_value t c ≡ true
contained_true t l [] h e = absurd (false≢true h)
contained_true t l (k ∷ c) h e =
    elim (or_cases (literal_eq l k) (contains_literal l c) h) [
      | inl here ↦ or_left (literal_value t k) (clause_value t c)
          (subst (λ m. literal_value t m ≡ true) (literal_eq-true l k here) e)
      | inr more ↦ or_right (literal_value t k) (clause_value t c) (contained_true t l c more e)
    ]

-- a clause with complementary literals is true
pub tautologies_true : (t : Assignment) (c : List Literal) → is_tautology c ≡ true
    → clause_value t c ≡ true
tautologies_true t [] h = absurd (false≢true h)
tautologies_true t (l ∷ c) h =
    elim (or_cases (contains_literal (negation l) c) (is_tautology c) h) [
      | inl here ↦ elim (cases_Bool (literal_value t l)) [
        | inl on ↦ or_left (literal_value t l) (clause_value t c) on
        | inr off ↦ or_right (literal_value t l) (clause_value t c)
            (contained_true t (negation l) c here (negation-value t l off))
      ]
      | inr more ↦ or_right (literal_value t l) (clause_value t c) (tautologies_true t c more)
    ]
