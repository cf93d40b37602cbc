-- Literals among others.
use Rattle.std.proofs.Common.{◌≡◌, ◌≢◌, ℕ, ◌*◌, ◌<◌, Bool, true, false, not, ◌&&◌, eqb, List}
use Rattle.std.proofs.Common.{[], ◌∷◌, inl, inr, refl, sym, ap, arith}
use Rattle.std.specs.Prelude.{◌==◌}
use Rattle.std.proofs.lemmas.Bool.{or_parts, or_from, and_left, eqb-false, ne_eqb}
use Rattle.std.proofs.lemmas.Bool.{cases_Bool}
use Rattle.cnf.specs.Literal.{Literal, negation, literal_eq, same_bool, index_of}
use Rattle.cnf.specs.Clause.{contains_literal}
pub use Rattle.cnf.proofs.Laws.{contains-push, literal_eq-refl as literal_eq-self, negation_twice}
use Rattle.cnf.proofs.Laws.{index_same, index_below}
use Rattle.propagate_trail.specs.Tables.{mentions}
use Rattle.propagate_trail.specs.Trail.{IsVariable}

pub literal_eq-other : (k l : Literal) → k.variable ≢ l.variable → literal_eq k l ≡ false
literal_eq-other k l h =
    and_left (k.variable == l.variable) (same_bool k.negated l.negated)
    (ne_eqb k.variable l.variable h)

-- the literals of one variable
same_sign : (v : Bool) (a b : Bool) → (v && same_bool a b) ≡ false
    → (v && same_bool (not a) b) ≡ false → v ≡ false
same_sign true true true e f = e
same_sign true true false e f = f
same_sign true false true e f = f
same_sign true false false e f = e
same_sign false a b e f = refl

eqb-sym : (m n : ℕ) → eqb m n ≡ false → eqb n m ≡ false
eqb-sym m n e = ne_eqb n m (λ h. eqb-false m n e (sym h))

pub mentions-none : (l : Literal) (A : List Literal) → contains_literal l A ≡ false
    → contains_literal (negation l) A ≡ false → mentions l.variable A ≡ false
mentions-none l [] e f = refl
mentions-none l (k ∷ A) e f =
    let e' = or_parts (literal_eq l k) (contains_literal l A) e in
    let f' = or_parts (literal_eq (negation l) k) (contains_literal (negation l) A) f in
    or_from (k.variable == l.variable) (mentions l.variable A)
    (eqb-sym l.variable k.variable
    (same_sign (l.variable == k.variable) l.negated k.negated e'.0 f'.0))
    (mentions-none l A e'.1 f'.1)

pub contains-none : (l : Literal) (A : List Literal) → mentions l.variable A ≡ false
    → contains_literal l A ≡ false
contains-none l [] e = refl
contains-none l (k ∷ A) e =
    let e' = or_parts (k.variable == l.variable) (mentions l.variable A) e in
    or_from (literal_eq l k) (contains_literal l A)
    (literal_eq-other l k (λ h. eqb-false k.variable l.variable e'.0 (sym h)))
    (contains-none l A e'.1)

pub index-other : (variables : ℕ) (k l : Literal) → IsVariable variables k → IsVariable variables l
    → k.variable ≢ l.variable → index_of k ≢ index_of l
index-other variables k l h g ne e =
    ne (ap (λ (x : Literal). x.variable) (index_same k l h.0 g.0 e))

pub index-negation : (l : Literal) → index_of l ≢ index_of (negation l)
index-negation l = elim (cases_Bool l.negated) [
  | inl a ↦ rw a (λ e. omega arith)
  | inr a ↦
      rw a (λ e. omega arith)
]

pub index-within : (variables : ℕ) (l : Literal) → IsVariable variables l
    → index_of l < 2 * variables
index-within variables l h = index_below l variables h.0 h.1
