-- Clauses of literals of different variables, and lists that share no variable.
use Rattle.std.proofs.Common.{◌≡◌, ◌≢◌, ℕ, zero, suc, ◌<◌, ◌≤◌, false}
use Rattle.std.proofs.Common.{List, [], ◌∷◌, ◌++◌, length, refl, sym, ◌∙◌, ap}
use Rattle.std.proofs.Common.{arith, ◌==◌, subst, inl, inr}
use Rattle.std.specs.Prelude.{Some, slice_get}
use Rattle.std.specs.List.{AllByRecursion}
use Rattle.std.proofs.lemmas.Bool.{and_left, ne_eqb, or_from, or_parts, false≢true}
use Rattle.cnf.specs.Literal.{Literal, negation, literal_eq, same_bool}
use Rattle.cnf.specs.Clause.{has_repeat, is_tautology, contains_literal, greatest_variable}
use Rattle.cnf.proofs.Laws.{all_append, all_parts, all_weaker, same_variable, literal_eq-refl}
use Rattle.cnf.proofs.Laws.{negation_twice}
use Rattle.cnf.specs.Clause.{AreBelow}
use Rattle.totalizer.specs.Grown.{AreApart, IsStageClause}

-- the variable is that of none of them
abbrev pub IsNew : Literal → List Literal → Type 0
IsNew l c = AllByRecursion (λ k. l.variable ≢ k.variable) c

-- no two are of one variable
abbrev pub AreDifferent : List Literal → Type 0
AreDifferent [] = Unit {0}
AreDifferent (l ∷ c) = IsNew l c × AreDifferent c

pub new_absent : (l : Literal) (c : List Literal) → IsNew l c → contains_literal l c ≡ false
new_absent l [] h = refl
new_absent l (k ∷ c) h = or_from (literal_eq l k) (contains_literal l c)
    (and_left (l.variable == k.variable) (same_bool l.negated k.negated)
    (ne_eqb l.variable k.variable h.0)) (new_absent l c h.1)

different_once : (c : List Literal) → AreDifferent c → has_repeat c ≡ false
different_once [] h = refl
different_once (l ∷ c) h =
    or_from (contains_literal l c) (has_repeat c) (new_absent l c h.0) (different_once c h.1)

different_open : (c : List Literal) → AreDifferent c → is_tautology c ≡ false
different_open [] h = refl
different_open (l ∷ c) h =
    or_from (contains_literal (negation l) c) (is_tautology c) (new_absent (negation l) c h.0)
    (different_open c h.1)

pub stage_clause : (n : ℕ) (c : List Literal) → 2 ≤ length c → AreDifferent c → AreBelow n c
    → IsStageClause n c
stage_clause n c long different below = record {
  long = long;
  once = different_once c different;
  open_one = different_open c different;
  below = below;
}

-- neither twice nor negated
new_from : (l : Literal) (c : List Literal) → contains_literal l c ≡ false
    → contains_literal (negation l) c ≡ false → IsNew l c
new_from l [] h g = tt
new_from l (k ∷ c) h g =
    let p = or_parts (literal_eq l k) (contains_literal l c) h in
    let q = or_parts (literal_eq (negation l) k) (contains_literal (negation l) c) g in (
      λ e. elim (same_variable l k e) [
        | inl same ↦ false≢true (sym p.0 ∙ ap (literal_eq l) (sym same) ∙ literal_eq-refl l)
        | inr same ↦ false≢true (sym q.0
            ∙ ap (literal_eq (negation l)) (sym (ap negation same ∙ negation_twice k))
            ∙ literal_eq-refl (negation l))
      ],
      new_from l c p.1 q.1,
    )

pub different_from : (c : List Literal) → has_repeat c ≡ false → is_tautology c ≡ false
    → AreDifferent c
different_from [] h g = tt
different_from (l ∷ c) h g =
    let p = or_parts (contains_literal l c) (has_repeat c) h in
    let q = or_parts (contains_literal (negation l) c) (is_tautology c) g in
    (new_from l c p.0 q.0, different_from c p.1 q.1)

-- the parts of such a list
pub different_parts : (c d : List Literal) → AreDifferent (c ++ d)
    → AreDifferent c × AreDifferent d × AreApart c d
different_parts [] d h = (tt, h, tt)
different_parts (l ∷ c) d h =
    let own = all_parts (λ k. l.variable ≢ k.variable) c d h.0 in
    let rest = different_parts c d h.1 in
    ((own.0, rest.0), rest.1, (own.1, rest.2))

-- variables up to the greatest
pub below_greatest : (n : ℕ) (c : List Literal) → greatest_variable c < n → AreBelow n c
below_greatest n [] h = tt
below_greatest n (l ∷ c) h = (omega arith, below_greatest n c (omega arith))

-- one more on a side, whose variable is above all of the other
pub new_above : (v : ℕ) (l : Literal) (c : List Literal) → v ≤ l.variable → AreBelow v c → IsNew l c
new_above v l c h =
    all_weaker (λ k. k.variable < v) (λ k. l.variable ≢ k.variable) c (λ k g e. omega arith)

pub apart_left : (c d : List Literal) (l : Literal) → AreApart c d → IsNew l d
    → AreApart (c ++ l ∷ []) d
apart_left c d l h g =
    all_append (λ k. AllByRecursion (λ m. k.variable ≢ m.variable) d) c (l ∷ []) h (g, tt)

pub apart_right : (c d : List Literal) (l : Literal) → AreApart c d → IsNew l c
    → AreApart c (d ++ l ∷ [])
apart_right [] d l h g = tt
apart_right (k ∷ c) d l h g = (
  all_append (λ m. k.variable ≢ m.variable) d (l ∷ []) h.0 (λ e. g.0 (sym e), tt),
  apart_right c d l h.1 g.1,
)

-- what holds of each, at a place
pub all_got : {X : Type 0} (P : X → Type 0) (xs : List X) (i : ℕ) (x : X) → AllByRecursion P xs
    → slice_get xs i ≡ Some x → P x
all_got P [] i x h e = absurd (cc)
all_got P (y ∷ xs) zero x h e =
    let same : y ≡ x = cc in
    subst P same h.0
all_got P (y ∷ xs) (suc i) x h e = all_got P xs i x h.1 e
