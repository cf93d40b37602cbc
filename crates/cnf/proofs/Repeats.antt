-- A clause less one literal, with each literal once, and with one more.
use Rattle.std.proofs.Common.{◌≡◌, Bool, true, false, ◌&&◌, ◌||◌, List, [], ◌∷◌, ◌++◌, refl, sym}
use Rattle.std.proofs.Common.{◌∙◌, ap}
use Rattle.std.proofs.Common.{inl, inr}
use Rattle.std.proofs.lemmas.Bool.{cases_Bool, or_from, or_parts}
use Rattle.std.proofs.lemmas.List.Folds.{list_any-append}
use Rattle.cnf.specs.Literal.{Literal, literal_eq, same_bool}
use Rattle.cnf.specs.Clause.{contains_literal, without_literal, distinct, has_repeat}
use Rattle.cnf.proofs.Literals.{contains-push, literal_eq_ne, literal_ne}
use Rattle.cnf.proofs.Numbers.{same_number}

pub absent_own : (l : Literal) (c : List Literal) → contains_literal l (without_literal l c) ≡ false
absent_own l [] = refl
absent_own l (k ∷ c) =
    elim (cases_Bool (literal_eq l k)) [
      | inl e ↦ rw e (absent_own l c)
      | inr e ↦ rw (e, e) (absent_own l c)
    ]

absent_without : (k l : Literal) (c : List Literal) → contains_literal k c ≡ false
    → contains_literal k (without_literal l c) ≡ false
absent_without k l [] h = refl
absent_without k l (x ∷ c) h =
    let p = or_parts (literal_eq k x) (contains_literal k c) h in
    elim (cases_Bool (literal_eq l x)) [
      | inl e ↦ rw e (absent_without k l c p.1)
      | inr e ↦ rw e (or_from (literal_eq k x) _ p.0 (absent_without k l c p.1))
    ]

repeat_without : (l : Literal) (c : List Literal) → has_repeat c ≡ false
    → has_repeat (without_literal l c) ≡ false
repeat_without l [] h = refl
repeat_without l (k ∷ c) h =
    let p = or_parts (contains_literal k c) (has_repeat c) h in
    elim (cases_Bool (literal_eq l k)) [
      | inl e ↦ rw e (repeat_without l c p.1)
      | inr e ↦ rw e (or_from (contains_literal k (without_literal l c))
          (has_repeat (without_literal l c)) (absent_without k l c p.0) (repeat_without l c p.1))
    ]

pub repeat_distinct : (c : List Literal) → has_repeat (distinct c) ≡ false
repeat_distinct [] = refl
repeat_distinct (l ∷ c) =
    or_from (contains_literal l (without_literal l (distinct c)))
    (has_repeat (without_literal l (distinct c))) (absent_own l (distinct c))
    (repeat_without l (distinct c) (repeat_distinct c))

pub repeat_push : (c : List Literal) (l : Literal) → contains_literal l c ≡ false
    → has_repeat c ≡ false → has_repeat (c ++ l ∷ []) ≡ false
repeat_push [] l n h = refl
repeat_push (k ∷ c) l n h =
    let p = or_parts (literal_eq l k) (contains_literal l c) n in
    let q = or_parts (contains_literal k c) (has_repeat c) h in
    let other : literal_eq k l ≡ false = literal_eq_ne k l (λ e. literal_ne l k p.0 (sym e)) in
    or_from (contains_literal k (c ++ l ∷ [])) (has_repeat (c ++ l ∷ [])) (contains-push k c l
    ∙ or_from (contains_literal k c) (literal_eq k l) q.0 other) (repeat_push c l p.1 q.1)

-- one more literal, at the end
pub repeats-more : (c : List Literal) (l : Literal)
    → has_repeat (c ++ l ∷ []) ≡ (has_repeat c || contains_literal l c)
repeats-more [] l = refl
repeats-more (k ∷ c) l =
    (λ i. list_any-append (literal_eq k) c (l ∷ []) i || repeats-more c l i)
    ∙ ap (λ b. (contains_literal k c || (b || false)) ||
    (has_repeat c || contains_literal l c)) swapped
    ∙ by (contains_literal k c) (literal_eq l k) (has_repeat c) (contains_literal l c)
  where
    signs : (a b : Bool) → same_bool a b ≡ same_bool b a
    signs true true = refl
    signs true false = refl
    signs false true = refl
    signs false false = refl

    swapped : literal_eq k l ≡ literal_eq l k
    swapped = λ i. same_number k.variable l.variable i && signs k.negated l.negated i

    by : (a b c d : Bool) → ((a || (b || false)) || (c || d)) ≡ ((a || c) || (b || d))
    by true b c d = refl
    by false true true d = refl
    by false true false d = refl
    by false false c d = refl
