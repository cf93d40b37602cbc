-- Which literals a list has: after a push, under negation, and twice.
use Rattle.std.proofs.Common.{◌≡◌, ℕ, ◌<◌, ◌≤◌, true, false, ◌||◌, List, [], ◌∷◌, ◌++◌}
use Rattle.std.proofs.Common.{refl, sym, ◌∙◌, ap, subst, inl, inr, arith}
use Rattle.std.proofs.Math.Bool.{or-false}
use Rattle.std.proofs.lemmas.Bool.{or_cases, or_parts, or_from, or_left, or_right, false≢true}
use Rattle.std.proofs.lemmas.Bool.{false_from_ne_true}
use Rattle.std.proofs.lemmas.List.Folds.{list_any-append}
use Rattle.std.proofs.lemmas.List.Elements.{All-head, All-tail}
use Rattle.cnf.specs.Literal.{Literal, negation, literal_eq}
use Rattle.cnf.specs.Clause.{contains_literal, has_repeat, is_tautology, IsClauseWithin}
use Rattle.cnf.proofs.Laws.{literal_eq-refl, literal_eq-true, negation_twice, literal_eq-swapped}
use Rattle.cnf.proofs.Laws.{literal_eq_ne, literal_ne, tests_agree}
use Rattle.lrat_machine.specs.Steps.{HaveSame}

-- one more at the end
pub contains-push : (k l : Literal) (xs : List Literal)
    → contains_literal k (xs ++ l ∷ []) ≡ (contains_literal k xs || contains_literal k (l ∷ []))
contains-push k l xs = list_any-append (literal_eq k) xs (l ∷ [])

pub not_in_push : (k l : Literal) (xs : List Literal) → contains_literal k xs ≡ false
    → literal_eq k l ≡ false → contains_literal k (xs ++ l ∷ []) ≡ false
not_in_push k l xs h e = contains-push k l xs ∙ or_from _ _ h (or_from _ _ e refl)

pub not_in_push-parts : (k l : Literal) (xs : List Literal)
    → contains_literal k (xs ++ l ∷ []) ≡ false → (contains_literal k xs ≡ false)
    × (literal_eq k l ≡ false)
not_in_push-parts k l xs h =
    let p =
    or_parts (contains_literal k xs) (contains_literal k (l ∷ [])) (sym (contains-push k l xs)
    ∙ h) in
    (p.0, (or_parts (literal_eq k l) false p.1).0)

pub push_other : (k l : Literal) (xs : List Literal) → literal_eq k l ≡ false
    → contains_literal k (xs ++ l ∷ []) ≡ contains_literal k xs
push_other k l xs e =
    contains-push k l xs
    ∙ ap (λ b. contains_literal k xs || b) (or_from (literal_eq k l) false e refl)
    ∙ or-false (contains_literal k xs)

pub in_middle : (l : Literal) (xs ys : List Literal) → contains_literal l (xs ++ l ∷ ys) ≡ true
in_middle l xs ys = list_any-append (literal_eq l) xs (l ∷ ys)
    ∙ or_right _ _ (or_left _ _ (literal_eq-refl l))

-- at the end or at the front is the same
pub HaveSame-push : (l : Literal) (A : List Literal) → HaveSame (l ∷ A) (A ++ l ∷ [])
HaveSame-push l A k =
    tests_agree _ _
    (λ e. contains-push k l A ∙ elim (or_cases (literal_eq k l) (contains_literal k A) e) [
      | inl h ↦
          or_right _ _ (or_left _ _ h)
      | inr h ↦ or_left _ _ h
    ])
    (λ e. elim (or_cases (contains_literal k A) (contains_literal k (l ∷ []))
    (sym (contains-push k l A) ∙ e)) [
      | inl h ↦ or_right _ _ h
      | inr h ↦ elim (or_cases (literal_eq k l) false h) [
        | inl g ↦ or_left _ _ g
        | inr g ↦
            absurd (false≢true g)
      ]
    ])

-- repeats
pub has_repeat-last : (l : Literal) (xs : List Literal) → has_repeat (xs ++ l ∷ []) ≡ false
    → (has_repeat xs ≡ false) × (contains_literal l xs ≡ false)
has_repeat-last l [] r = (refl, refl)
has_repeat-last l (x ∷ xs) r =
    let p = or_parts (contains_literal x (xs ++ l ∷ [])) (has_repeat (xs ++ l ∷ [])) r in
    let q = not_in_push-parts x l xs p.0 in
    let h = has_repeat-last l xs p.1 in
    (or_from _ _ q.0 h.0, or_from _ _ (literal_eq_ne l x (λ s. literal_ne x l q.1 (sym s))) h.1)

pub repeat_at : (l : Literal) (xs ys : List Literal) → contains_literal l xs ≡ true
    → has_repeat (xs ++ l ∷ ys) ≡ true
repeat_at l [] ys h = absurd (false≢true h)
repeat_at l (x ∷ xs) ys h =
    elim (or_cases (literal_eq l x) (contains_literal l xs) h) [
      | inl e ↦ or_left _ _ (subst (λ k. contains_literal k (xs ++ l ∷ ys) ≡ true)
          (literal_eq-true l x e) (in_middle l xs ys))
      | inr e ↦ or_right _ _ (repeat_at l xs ys e)
    ]

-- complementary literals
pub is_tautology-push : (l : Literal) (xs : List Literal) → is_tautology xs ≡ false
    → contains_literal (negation l) xs ≡ false → is_tautology (xs ++ l ∷ []) ≡ false
is_tautology-push l [] r h = refl
is_tautology-push l (x ∷ xs) r h =
    let p = or_parts (contains_literal (negation x) xs) (is_tautology xs) r in
    let q = or_parts (literal_eq (negation l) x) (contains_literal (negation l) xs) h in
    or_from _ _ (not_in_push (negation x) l xs p.0 (sym (literal_eq-swapped x l)
    ∙ literal_eq_ne x (negation l) (λ s. literal_ne (negation l) x q.0 (sym s))))
    (is_tautology-push l xs p.1 q.1)

pub complement_at : (l : Literal) (xs ys : List Literal) → contains_literal (negation l) xs ≡ true
    → is_tautology (xs ++ l ∷ ys) ≡ true
complement_at l [] ys h = absurd (false≢true h)
complement_at l (x ∷ xs) ys h =
    elim (or_cases (literal_eq (negation l) x) (contains_literal (negation l) xs) h) [
      | inl e ↦
          let same : l ≡ negation x =
          sym (negation_twice l) ∙ ap negation (literal_eq-true (negation l) x e) in
          or_left _ _ (subst (λ k. contains_literal k (xs ++ l ∷ ys) ≡ true) same
          (in_middle l xs ys))
      | inr e ↦ or_right _ _ (complement_at l xs ys e)
    ]

-- a list within a bound has no literal past it
pub none_past : (n : ℕ) (l : Literal) (xs : List Literal) → IsClauseWithin n xs → n < l.variable
    → contains_literal l xs ≡ false
none_past n l [] w h = refl
none_past n l (x ∷ xs) w h =
    or_from _ _
    (false_from_ne_true (literal_eq l x) (λ e.
    let same : l.variable ≡ x.variable = ap (λ k. k.variable) (literal_eq-true l x e) in
    let le : x.variable ≤ n = All-head (λ k. k.variable ≤ n) x xs w in
    absurd (omega arith)))
    (none_past n l xs (All-tail (λ k. k.variable ≤ n) x xs w) h)
