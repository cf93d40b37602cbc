-- The comparator says that the value of the outputs is below the bound.
use Rattle.std.proofs.Common.{◌≡◌, ℕ, zero, suc, ◌+◌, ◌*◌, ◌/◌, ◌^◌, ◌≤◌, Bool, true, false, not}
use Rattle.std.proofs.Common.{◌&&◌, ◌||◌, List, [], ◌∷◌, reverse, Option, Some, None, ◌==◌, nat_le}
use Rattle.std.proofs.Common.{nat_lt, inl, inr, refl, sym, ◌∙◌, ap, arith}
use Rattle.std.proofs.lemmas.Bool.{eqb-true, eq-eqb, false≢true, and_parts, and_from, leb-true}
use Rattle.std.proofs.lemmas.Bool.{le-leb, lt-leb, leb-false, cases_lt, le-ltb}
use Rattle.std.proofs.lemmas.Bool.Decides.{nat_tests}
use Rattle.cnf.specs.Numbers.{one_if}
use Rattle.cnf.specs.Literal.{Assignment, Literal, literal_value}
use Rattle.cnf.specs.Clause.{clause_value}
use Rattle.adder.specs.Network.{bit, value_of}
use Rattle.adder.proofs.Laws.{digit}
use Rattle.bound.specs.Bound.{no, above, rising_clauses, comparator_of}
use Rattle.bound.proofs.Clauses.{all_true, value-no, all_true-kept, all_true-reverse}

-- the clause is there, and false
abbrev pub falsified : Assignment → Option (List Literal) → Bool
falsified t None = false
falsified t (Some c) = not (clause_value t c)

abbrev pub output_true : Assignment → Option Literal → Bool
output_true t None = false
output_true t (Some v) = literal_value t v

not_or : (t : Assignment) (v : Literal) (b : Bool)
    → not (literal_value t (no v) || b) ≡ (literal_value t v && not b)
not_or t v b = ap (λ n. not (n || b)) (value-no t v) ∙ by (literal_value t v)
  where
    by : (a : Bool) → not (not a || b) ≡ (a && not b)
    by true = refl
    by false = refl

and_false : (b : Bool) → false ≡ (b && false)
and_false true = refl
and_false false = refl

falsified_set : (t : Assignment) (o : Option Literal) (outputs : List (Option Literal))
    (limit j : ℕ) → bit limit j ≡ true
    → falsified t (above (o ∷ outputs) limit j)
    ≡ (output_true t o && falsified t (above outputs limit (j + 1)))
falsified_set t None outputs limit j e = rw e refl
falsified_set t (Some v) outputs limit j e =
    elim (above outputs limit (j + 1)) as (λ x. above outputs limit (j + 1) ≡ x
    → falsified t (above (Some v ∷ outputs) limit j)
    ≡ (literal_value t v && falsified t (above outputs limit (j + 1)))) [
      | None ↦ λ f. rw (e, f) (and_false (literal_value t v))
      | Some c ↦ λ f. rw (e, f) (not_or t v (clause_value t c))
    ] refl

falsified_clear : (t : Assignment) (o : Option Literal) (outputs : List (Option Literal))
    (limit j : ℕ) → bit limit j ≡ false
    → falsified t (above (o ∷ outputs) limit j) ≡ falsified t (above outputs limit (j + 1))
falsified_clear t o outputs limit j e = rw e refl

rising_set : (t : Assignment) (o : Option Literal) (outputs : List (Option Literal)) (limit j : ℕ)
    → bit limit j ≡ true
    → all_true t (rising_clauses (o ∷ outputs) limit j) ≡ all_true t
    (rising_clauses outputs limit (j + 1))
rising_set t o outputs limit j e = rw e refl

rising_clear : (t : Assignment) (o : Option Literal) (outputs : List (Option Literal)) (limit j : ℕ)
    → bit limit j ≡ false
    → all_true t (rising_clauses (o ∷ outputs) limit j)
    ≡ (not (output_true t o && falsified t (above outputs limit (j + 1))) && all_true t
    (rising_clauses outputs limit (j + 1)))
rising_clear t None outputs limit j e = rw e refl
rising_clear t (Some v) outputs limit j e =
    elim (above outputs limit (j + 1)) as (λ x. above outputs limit (j + 1) ≡ x
    → all_true t (rising_clauses (Some v ∷ outputs) limit j)
    ≡ (not (literal_value t v && falsified t (above outputs limit (j + 1))) && all_true t
    (rising_clauses outputs limit (j + 1)))) [
      | None ↦ λ f. rw (e, f) (ap (λ b. not b && all_true t (rising_clauses outputs limit (j + 1)))
          (and_false (literal_value t v)))
      | Some c ↦ λ f. rw (e, f) (ap (λ b. b && all_true t (rising_clauses outputs limit (j + 1)))
          (ap (λ n. n || clause_value t c) (value-no t v)
          ∙ led (literal_value t v) (clause_value t c)))
    ] refl
  where
    led : (a b : Bool) → (not a || b) ≡ not (a && not b)
    led true true = refl
    led true false = refl
    led false b = refl

value-cons : (t : Assignment) (o : Option Literal) (outputs : List (Option Literal))
    → value_of t (o ∷ outputs) ≡ one_if (output_true t o) + 2 * value_of t outputs
value-cons t None outputs = omega arith
value-cons t (Some v) outputs = refl

-- the clause of the limit's digits is false where they are all outputs, and so where the two
-- numbers are one
pub record AboveSays (t : Assignment) (outputs : List (Option Literal)) (limit j : ℕ) : Type 0 where
  pub to : falsified t (above outputs limit j) ≡ true → limit / 2 ^ j ≤ value_of t outputs
  pub from : value_of t outputs ≡ limit / 2 ^ j → falsified t (above outputs limit j) ≡ true

pub above_says : (t : Assignment) (outputs : List (Option Literal)) (limit j : ℕ)
    → AboveSays t outputs limit j
above_says t [] limit j =
    elim (limit / 2 ^ j == 0) as (λ b. (limit / 2 ^ j == 0) ≡ b → AboveSays t [] limit j) [
      | true ↦ λ e. record {
        to = λ h. omega (arith, eqb-true (limit / 2 ^ j) 0 e);
        from = λ h. rw e refl;
      }
      | false ↦ λ e. record {
        to = λ h. absurd (false≢true (rw e at h));
        from = λ h. absurd (false≢true (sym e ∙ eq-eqb (limit / 2 ^ j) 0 (sym h)));
      }
    ] refl
above_says t (o ∷ outputs) limit j =
    let r = above_says t outputs limit (j + 1) in
    elim (bit limit j) as (λ b. bit limit j ≡ b → AboveSays t (o ∷ outputs) limit j) [
      | true ↦ λ e. record {
        to = λ h.
            let parts =
            and_parts (output_true t o) (falsified t (above outputs limit (j + 1)))
            (sym (falsified_set t o outputs limit j e) ∙ h) in
            omega (
              arith,
              digit limit j,
              ap one_if e,
              value-cons t o outputs,
              ap one_if parts.0,
              r.to parts.1,
            );
        from = λ h.
            let both =
            set_same (output_true t o) (value_of t outputs) (limit / 2 ^ (j + 1))
            (omega (arith, digit limit j, ap one_if e, value-cons t o outputs)) in
            falsified_set t o outputs limit j e
            ∙ and_from (output_true t o) (falsified t (above outputs limit (j + 1))) both.0
            (r.from both.1);
      }
      | false ↦ λ e. record {
        to =
            λ h. omega (
              arith,
              digit limit j,
              ap one_if e,
              value-cons t o outputs,
              r.to (sym (falsified_clear t o outputs limit j e) ∙ h),
            );
        from = λ h. falsified_clear t o outputs limit j e
            ∙ r.from (clear_same (output_true t o) (value_of t outputs) (limit / 2 ^ (j + 1))
            (omega (arith, digit limit j, ap one_if e, value-cons t o outputs)));
      }
    ] refl
  where
    set_same : (b : Bool) (m n : ℕ) → one_if b + 2 * m ≡ 1 + 2 * n → (b ≡ true) × (m ≡ n)
    set_same true m n h = (refl, omega arith)
    set_same false m n h = absurd (omega arith)

    clear_same : (b : Bool) (m n : ℕ) → one_if b + 2 * m ≡ 2 * n → m ≡ n
    clear_same true m n h = absurd (omega arith)
    clear_same false m n h = omega arith

le_same : (a b c d : ℕ) → (a ≤ b → c ≤ d) → (c ≤ d → a ≤ b) → nat_le a b ≡ nat_le c d
le_same a b c d f g =
    elim (nat_le a b) as (λ x. nat_le a b ≡ x → x ≡ nat_le c d) [
      | true ↦ λ e. sym (le-leb c d (f (leb-true a b e)))
      | false ↦ λ e. elim (cases_lt d c) [
        | inl h ↦ sym (lt-leb c d h)
        | inr h ↦
            absurd (omega (arith, g h, leb-false a b e))
      ]
    ] refl

clear_step : (o f : Bool) (v m x y : ℕ) → (f ≡ true → m ≤ v) → (v ≡ m → f ≡ true)
    → x ≡ one_if o + 2 * v → y ≡ 2 * m → (not (o && f) && nat_le v m) ≡ nat_le x y
clear_step false f v m x y to from e k = le_same v m x y (omega arith) (omega arith)
clear_step true true v m x y to from e k = sym (lt-leb x y (omega (arith, to refl)))
clear_step true false v m x y to from e k =
    let apart : v ≡ m → ⊥ = λ h. false≢true (from h) in
    le_same v m x y (omega arith) (omega arith)

set_step : (o : Bool) (v m x y : ℕ) → x ≡ one_if o + 2 * v → y ≡ 1 + 2 * m → nat_le v m ≡ nat_le x y
set_step true v m x y e k = le_same v m x y (omega arith) (omega arith)
set_step false v m x y e k = le_same v m x y (omega arith) (omega arith)

pub rising_true : (t : Assignment) (outputs : List (Option Literal)) (limit j : ℕ)
    → all_true t (rising_clauses outputs limit j) ≡ nat_le (value_of t outputs) (limit / 2 ^ j)
rising_true t [] limit j = sym (le-leb 0 (limit / 2 ^ j) (omega arith))
rising_true t (o ∷ outputs) limit j =
    elim (bit limit j) as (λ b. bit limit j ≡ b → all_true t (rising_clauses (o ∷ outputs) limit j)
    ≡ nat_le (value_of t (o ∷ outputs)) (limit / 2 ^ j)) [
      | true ↦ λ e. rising_set t o outputs limit j e ∙ rising_true t outputs limit (j + 1)
          ∙ set_step (output_true t o) (value_of t outputs) (limit / 2 ^ (j + 1)) _ _
          (value-cons t o outputs) (omega (arith, digit limit j, ap one_if e))
      | false ↦ λ e. rising_clear t o outputs limit j e
          ∙ ap (λ b. not (output_true t o && falsified t (above outputs limit (j + 1))) && b)
          (rising_true t outputs limit (j + 1))
          ∙ clear_step (output_true t o) (falsified t (above outputs limit (j + 1)))
          (value_of t outputs) (limit / 2 ^ (j + 1)) _ _
          (above_says t outputs limit (j + 1)).to (above_says t outputs limit (j + 1)).from
          (value-cons t o outputs) (omega (arith, digit limit j, ap one_if e))
    ] refl

up_to : (v m limit : ℕ) → m ≡ limit → nat_le v m ≡ nat_lt v (suc limit)
up_to v m limit e = grind (arith, nat_tests)

-- the comparator holds exactly where the outputs are below the bound, for any outputs and any bound
pub comparator_true : (t : Assignment) (outputs : List (Option Literal)) (k : ℕ)
    → all_true t (comparator_of outputs k) ≡ nat_lt (value_of t outputs) k
comparator_true t outputs zero = sym (le-ltb (value_of t outputs) 0 (omega arith))
comparator_true t outputs (suc limit) =
    all_true-kept t (reverse (rising_clauses outputs limit 0))
    ∙ all_true-reverse t (rising_clauses outputs limit 0) ∙ rising_true t outputs limit 0
    ∙ up_to (value_of t outputs) (limit / 1) limit (omega arith)
