-- Literals that become false, one after the other.
use Rattle.std.proofs.lemmas.Bool.{or_parts}
use Rattle.std.proofs.Common.{◌≡◌, ◌≢◌, ℕ, zero, suc, ℤ, ◌+ℤ◌, ◌+◌, ◌<◌, List, [], ◌∷◌, ◌++◌}
use Rattle.std.proofs.Common.{Option, Some, None, Bool, true, false, ◌||◌, length, get_or, set}
use Rattle.std.proofs.Common.{take, arith, refl, sym, ap, ◌∙◌, inl, inr, get_or-set_other}
use Rattle.std.specs.List.{AllByRecursion}
use Rattle.std.proofs.lemmas.Int.{ints}
use Rattle.std.proofs.lemmas.List.{length-set, take_more}
use Rattle.cnf.specs.Literal.{Literal, negation}
use Rattle.cnf.specs.Clause.{contains_literal, has_repeat, is_tautology}
use Rattle.cnf.proofs.Laws.{at_contains, negation_twice, same_variable}
use Rattle.linear.specs.Linear.{coefficient}
use Rattle.linear.specs.Costs.{CostForm, HasOneWidth, falsified, least_where, width_of}
use Rattle.linear.proofs.Sums.{least_at, sum_set_value}

pub falsified_push : (ls : List Literal) (l : Literal) (fs : List (Option Bool))
    → falsified (ls ++ l ∷ []) fs ≡ set (falsified ls fs) l.variable (Some l.negated)
falsified_push [] l fs = refl
falsified_push (k ∷ ls) l fs = falsified_push ls l (set fs k.variable (Some k.negated))

pub falsified_length : (ls : List Literal) (fs : List (Option Bool))
    → length (falsified ls fs) ≡ length fs
falsified_length [] fs = refl
falsified_length (l ∷ ls) fs =
    falsified_length ls (set fs l.variable (Some l.negated))
    ∙ length-set fs l.variable (Some l.negated)

pub falsified_other : (ls : List Literal) (fs : List (Option Bool)) (v : ℕ)
    → AllByRecursion (λ k. k.variable ≢ v) ls
    → get_or (falsified ls fs) v None ≡ get_or fs v None
falsified_other [] fs v h = refl
falsified_other (l ∷ ls) fs v h =
    falsified_other ls (set fs l.variable (Some l.negated)) v h.1
    ∙ get_or-set_other fs l.variable v (Some l.negated) None (λ e. h.0 (sym e))

-- a literal's variable is of none before it, where none stands twice
pub others_before : (ls : List Literal) (i : ℕ) (l : Literal) → has_repeat ls ≡ false
    → is_tautology ls ≡ false → i < length ls → l ≡ get_or ls i l
    → AllByRecursion (λ k. k.variable ≢ l.variable) (take i ls)
others_before [] i l h t lt is = absurd (omega (arith, lt))
others_before (k ∷ c) zero l h t lt is = tt
others_before (k ∷ c) (suc i) l h t lt is =
    let r = or_parts (contains_literal k c) (has_repeat c) h in
    let s = or_parts (contains_literal (negation k) c) (is_tautology c) t in
    let d : i < length c = omega (arith, lt) in
    let m = at_contains c i l d is in
    let first : k.variable ≢ l.variable
    = λ e. elim (same_variable k l e) [
      | inl a ↦ differ (ap (λ x. contains_literal x c) a) m r.0
      | inr a ↦ differ (ap (λ x. contains_literal (negation x) c) a
          ∙ ap (λ x. contains_literal x c) (negation_twice l)) m s.0
    ] in
    (first, others_before c i l r.1 s.1 d is)
  where
    differ : {a b : Bool} → a ≡ b → b ≡ true → a ≡ false → ⊥
    differ p q r = cc

-- the least value where one more is false
pub least_pushed : (f : CostForm) (ls : List Literal) (i : ℕ) (l : Literal) (n : ℤ)
    → HasOneWidth f → has_repeat ls ≡ false → is_tautology ls ≡ false → i < length ls
    → l ≡ get_or ls i l → l.variable < width_of f
    → n +ℤ least_at f.scale (coefficient f.cost l.variable) (coefficient f.added l.variable)
    (get_or f.fixed l.variable None)
    ≡ least_where f (falsified (take i ls) f.fixed)
    +ℤ least_at f.scale (coefficient f.cost l.variable) (coefficient f.added l.variable)
    (Some l.negated)
    → n ≡ least_where f (falsified (take (i + 1) ls) f.fixed)
least_pushed f ls i l n w h t lt is v e =
    let fs = falsified (take i ls) f.fixed in
    let k = falsified_length (take i ls) f.fixed in
    let o = falsified_other (take i ls) f.fixed l.variable (others_before ls i l h t lt is) in
    let d : l.variable < length fs = omega (arith, k, v) in
    let s = sum_set_value f.scale (f.cost).coefficients (f.added).coefficients fs l.variable
    (Some l.negated) (w.cost ∙ sym k) (w.added ∙ sym k) d in
    let g = ap (least_at f.scale (coefficient f.cost l.variable) (coefficient f.added l.variable))
    o in
    let p : falsified (take (i + 1) ls) f.fixed ≡ set fs l.variable (Some l.negated)
    = ap (λ xs. falsified xs f.fixed) (take_more ls i l lt)
    ∙ ap (λ x. falsified (take i ls ++ x ∷ []) f.fixed) (sym is)
    ∙ falsified_push (take i ls) l f.fixed in
    let q : n ≡ least_where f (set fs l.variable (Some l.negated)) = omega (arith, ints, e, s, g) in
    q ∙ ap (least_where f) (sym p)
