-- Which literals a clause has: one behind another, one of negations, and one that has another.
use Rattle.std.proofs.Common.{◌≡◌, ◌<◌, Bool, true, false, not, ◌&&◌, ◌||◌, List, [], ◌∷◌, ◌++◌}
use Rattle.std.proofs.Common.{map, inl, inr, refl, ◌∙◌, ap, arith, if◌then◌else◌}
use Rattle.std.proofs.lemmas.Bool.{and_left, cases_Bool, false≢true, ne_eqb, or_cases, or_from}
use Rattle.std.proofs.lemmas.Bool.{or_left, or_right}
use Rattle.std.proofs.lemmas.List.Folds.{list_any-append}
use Rattle.std.specs.Prelude.{◌==◌}
use Rattle.cnf.specs.Literal.{Literal, negation, literal_eq, same_bool}
use Rattle.cnf.specs.Clause.{contains_literal, greatest_variable, is_subset}
use Rattle.cnf.proofs.Literals.{literal_eq-refl, literal_eq-swapped}
use Rattle.cnf.proofs.Sound.{literal_eq-true}

pub contains-append : (l : Literal) (A B : List Literal)
    → contains_literal l (A ++ B) ≡ (contains_literal l A || contains_literal l B)
contains-append l A B = list_any-append (literal_eq l) A B

pub contains_front : (l : Literal) (A B : List Literal) → contains_literal l A ≡ true
    → contains_literal l (A ++ B) ≡ true
contains_front l A B h =
    contains-append l A B ∙ or_left (contains_literal l A) (contains_literal l B) h

pub contains_back : (l : Literal) (A B : List Literal) → contains_literal l B ≡ true
    → contains_literal l (A ++ B) ≡ true
contains_back l A B h =
    contains-append l A B ∙ or_right (contains_literal l A) (contains_literal l B) h

pub member_pushed : (l : Literal) (c : List Literal) → contains_literal l (c ++ l ∷ []) ≡ true
member_pushed l c = contains_back l c (l ∷ []) (or_left (literal_eq l l) false (literal_eq-refl l))

pub contains_negation : (l : Literal) (c : List Literal)
    → contains_literal l (map negation c) ≡ contains_literal (negation l) c
contains_negation l [] = refl
contains_negation l (k ∷ c) =
    ap (λ b. b || contains_literal l (map negation c)) (literal_eq-swapped l k)
    ∙ ap (λ b. literal_eq (negation l) k || b) (contains_negation l c)

same_bool-not : (a b : Bool) → same_bool (not a) (not b) ≡ same_bool a b
same_bool-not true true = refl
same_bool-not true false = refl
same_bool-not false true = refl
same_bool-not false false = refl

pub literal_eq-negations : (k l : Literal) → literal_eq (negation k) (negation l) ≡ literal_eq k l
literal_eq-negations k l =
    ap (λ b. (k.variable == l.variable) && b) (same_bool-not k.negated l.negated)

-- the negation is among the negations just where the literal is in the clause
pub contains-negations : (k : Literal) (c : List Literal)
    → contains_literal (negation k) (map negation c) ≡ contains_literal k c
contains-negations k [] = refl
contains-negations k (l ∷ c) = rw (literal_eq-negations, contains-negations k c)

-- a clause on smaller variables lacks the literal
pub absent_above : (l : Literal) (c : List Literal) → greatest_variable c < l.variable
    → contains_literal l c ≡ false
absent_above l [] h = refl
absent_above l (k ∷ c) h = or_from (literal_eq l k) (contains_literal l c)
    (and_left (l.variable == k.variable) (same_bool l.negated k.negated)
    (ne_eqb l.variable k.variable (λ e. omega arith))) (absent_above l c (omega arith))

-- subsets
pub subset_from : (c d : List Literal)
    → ((l : Literal) → contains_literal l c ≡ true → contains_literal l d ≡ true)
    → is_subset c d ≡ true
subset_from [] d f = refl
subset_from (k ∷ c) d f =
    ap (λ b. if b then is_subset c d else false)
    (f k (or_left (literal_eq k k) (contains_literal k c) (literal_eq-refl k)))
    ∙ subset_from c d (λ l m. f l (or_right (literal_eq l k) (contains_literal l c) m))

pub subset_at : (c d : List Literal) (l : Literal) → is_subset c d ≡ true
    → contains_literal l c ≡ true → contains_literal l d ≡ true
subset_at [] d l s e = absurd (false≢true e)
subset_at (k ∷ c) d l s e = elim (cases_Bool (contains_literal k d)) [
  | inr n ↦ absurd (false≢true (rw n at s))
  | inl m ↦ elim (or_cases (literal_eq l k) (contains_literal l c) e) [
    | inl same ↦ ap (λ x. contains_literal x d) (literal_eq-true l k same) ∙ m
    | inr later ↦ subset_at c d l (rw m at s) later
  ]
]
