-- The outputs are the weight of what is given up.
use Rattle.std.proofs.Common.{◌≡◌, ℕ, zero, suc, ◌+◌, ◌*◌, ◌/◌, ◌%◌, ◌^◌, ◌<◌, ◌≤◌, Bool, true}
use Rattle.std.proofs.Common.{false, List, [], ◌∷◌, ◌++◌, length, map, filter, sum_by, Option, Some}
use Rattle.std.proofs.Common.{None, ◌==◌, if◌then◌else◌, refl, ◌∙◌, ap, arith, pow-suc}
use Rattle.std.specs.List.{AllByRecursion}
use Rattle.std.proofs.lemmas.Nat.{shr-shr}
use Rattle.std.proofs.lemmas.Bool.{eqb-true, eqb-false}
use Rattle.std.proofs.lemmas.List.{length-append}
use Rattle.std.proofs.lemmas.List.Sums.{sum_by-cons}
use Rattle.cnf.specs.Numbers.{one_if}
use Rattle.cnf.specs.Literal.{Assignment, Literal, negation, literal_value, positive}
use Rattle.cnf.specs.Problem.{SoftClause}
use Rattle.cnf.proofs.Laws.{all_left, all_right}
use Rattle.adder.specs.declared.profiles.Relaxing.{Relaxing}
use Rattle.adder.specs.declared.profiles.Relaxing.TheVariants.{EachByVariable, UnitsByNegation}
use Rattle.adder.specs.Network.{Relaxed, bit, binary_length, relaxed_one, relaxed_from, column_of}
use Rattle.adder.specs.Network.{added_up, columns_from, along_columns, value_of, third_of, IsCellOf}

-- how many are true
abbrev pub count_true : Assignment → List Literal → ℕ
count_true t [] = 0
count_true t (l ∷ ls) = one_if (literal_value t l) + count_true t ls

pub count_true-append : (t : Assignment) (xs ys : List Literal)
    → count_true t (xs ++ ys) ≡ count_true t xs + count_true t ys
count_true-append t [] ys = omega arith
count_true-append t (x ∷ xs) ys = omega (arith, count_true-append t xs ys)

-- the cells of a column keep its sum
pub column_sum : (t : Assignment) (steps fresh : ℕ) (ls : List Literal) → length ls ≤ steps + 1
    → AllByRecursion (IsCellOf t) (added_up steps fresh ls).cells
    → count_true t ls ≡ third_of t (added_up steps fresh ls).output + 2 * count_true t
    (added_up steps fresh ls).carries
column_sum t steps fresh [] h all = refl
column_sum t steps fresh (a ∷ []) h all = omega arith
column_sum t zero fresh (a ∷ b ∷ rest) h all = absurd (omega arith)
column_sum t (suc steps) fresh (a ∷ b ∷ []) h all =
    let short : 1 ≤ steps + 1 = omega arith in
    omega (arith, column_sum t steps (fresh + 2) (positive fresh ∷ []) short all.1, all.0)
column_sum t (suc steps) fresh (a ∷ b ∷ d ∷ rest) h all =
    let short : length (rest ++ positive fresh ∷ []) ≤ steps + 1 =
    omega (arith, length-append rest (positive fresh ∷ [])) in
    omega (
      arith,
      column_sum t steps (fresh + 2) (rest ++ positive fresh ∷ []) short all.1,
      all.0,
      count_true-append t rest (positive fresh ∷ []),
    )

-- the digit j and those above it
pub digit : (n j : ℕ) → n / 2 ^ j ≡ one_if (bit n j) + 2 * (n / 2 ^ (j + 1))
digit n j =
    elim (bit n j) as (λ b. bit n j ≡ b → n / 2 ^ j ≡ one_if b + 2 * (n / 2 ^ (j + 1))) [
      | true ↦ λ e. omega (arith, shr-shr n j 1, eqb-true (n / 2 ^ j % 2) 1 e)
      | false ↦ λ e. let odd : n / 2 ^ j % 2 ≡ 1 → ⊥ = eqb-false (n / 2 ^ j % 2) 1 e in
          omega (arith, shr-shr n j 1)
    ] refl

-- the digits from j on of the weights that are given up
abbrev pub weighed : Assignment → List Relaxed → ℕ → ℕ
weighed t [] j = 0
weighed t (e ∷ es) j =
    one_if (literal_value t e.literal) * ((e.soft).weight / 2 ^ j) + weighed t es j

pub scaled : (v : Bool) (x y b : ℕ) → x ≡ b + 2 * y
    → one_if v * x ≡ one_if v * b + 2 * (one_if v * y)
scaled true x y b e = omega arith
scaled false x y b e = omega arith

weighed_more : (t : Assignment) (es : List Relaxed) (j : ℕ)
    → weighed t es j ≡ count_true t (column_of es j) + 2 * weighed t es (j + 1)
weighed_more t [] j = refl
weighed_more t (e ∷ es) j =
    elim (bit (e.soft).weight j) as (λ b. one_if (bit (e.soft).weight j) ≡ one_if b
    → weighed t (e ∷ es) j ≡ count_true t
    (map (λ e. e.literal) (if b then e ∷ filter (λ e. bit (e.soft).weight j) es
    else filter (λ e. bit (e.soft).weight j) es)) + 2 * weighed t (e ∷ es) (j + 1)) [
      | true ↦ λ h. omega (arith, here 1 h, weighed_more t es j)
      | false ↦ λ h. omega (arith, here 0 h, weighed_more t es j)
    ] refl
  where
    here : (n : ℕ) → one_if (bit (e.soft).weight j) ≡ n
        → one_if (literal_value t e.literal) * ((e.soft).weight / 2 ^ j)
        ≡ one_if (literal_value t e.literal) * n
        + 2 * (one_if (literal_value t e.literal) * ((e.soft).weight / 2 ^ (j + 1)))
    here n h = scaled (literal_value t e.literal) _ _ n (omega (arith, digit (e.soft).weight j))

-- the columns that are left add up the carries and what the columns from j on are worth, where they
-- have room for both
pub columns_sum : (t : Assignment) (column : ℕ → List Literal) (worth : ℕ → ℕ)
    → ((j : ℕ) → worth j ≡ count_true t (column j) + 2 * worth (j + 1))
    → (more j fresh : ℕ) (carries : List Literal)
    → AllByRecursion (IsCellOf t) (columns_from column more j fresh carries).cells
    → count_true t carries + worth j < 2 ^ more
    → value_of t (columns_from column more j fresh carries).outputs ≡ count_true t carries + worth j
columns_sum t column worth law zero j fresh carries all room = omega arith
columns_sum t column worth law (suc more) j fresh carries all room =
    let ls = column j ++ carries in
    let sum = added_up (length ls) fresh ls in
    let rest = columns_from column more (j + 1) sum.fresh sum.carries in
    let short : length ls ≤ length ls + 1 = omega arith in
    let here =
    column_sum t (length ls) fresh ls short (all_left (IsCellOf t) sum.cells rest.cells all) in
    let below : count_true t sum.carries + worth (j + 1) < 2 ^ more =
    omega (arith, here, count_true-append t (column j) carries, law j, pow-suc 2 more) in
    let above =
    columns_sum t column worth law more (j + 1) sum.fresh sum.carries
    (all_right (IsCellOf t) sum.cells rest.cells all) below in
    joined sum.output rest.outputs (count_true t sum.carries + worth (j + 1)) above
    (omega (arith, here, count_true-append t (column j) carries, law j))
  where
    joined : (o : Option Literal) (os : List (Option Literal)) (n : ℕ) {m : ℕ} → value_of t os ≡ n
        → m ≡ third_of t o + 2 * n → value_of t (o ∷ os) ≡ m
    joined None os n e f = omega arith
    joined (Some l) os n e f = omega arith

-- what `binary_length` computes to at 63
abbrev pub length_in : ℕ → ℕ → ℕ
length_in zero m = 0
length_in (suc k) m = if m == 0 then 0 else suc (length_in k (m / 2))

pub length_in_room : (k n : ℕ) → n < 2 ^ k → n < 2 ^ length_in k n
length_in_room zero n h = h
length_in_room (suc k) n h =
    elim (n == 0) as (λ b. (n == 0) ≡ b → n < 2 ^ (if b then 0 else suc (length_in k (n / 2)))) [
      | true ↦ λ e. omega (arith, eqb-true n 0 e)
      | false ↦ λ e. let half : n / 2 < 2 ^ k = omega (arith, pow-suc 2 k) in
          omega (arith, length_in_room k (n / 2) half, pow-suc 2 (length_in k (n / 2)))
    ] refl

pub length_in_le : (k n : ℕ) → length_in k n ≤ k
length_in_le zero n = omega arith
length_in_le (suc k) n =
    elim (n == 0) as (λ b. (if b then 0 else suc (length_in k (n / 2))) ≤ suc k) [
      | true ↦ omega arith
      | false ↦ omega (arith, length_in_le k (n / 2))
    ]

-- a number has the digits that are counted
pub binary_length_room : (n : ℕ) → n < 2 ^ 63 → n < 2 ^ binary_length n
binary_length_room n h = length_in_room 63 n h

pub binary_length_le : (n : ℕ) → binary_length n ≤ 63
binary_length_le n = length_in_le 63 n

weighed_all : (t : Assignment) (es : List Relaxed)
    → weighed t es 0 ≡ sum_by (λ e. if literal_value t e.literal then (e.soft).weight else 0) es
weighed_all t [] = refl
weighed_all t (e ∷ es) =
    rw (
      sum_by-cons (λ (e : Relaxed). if literal_value t e.literal then (e.soft).weight else 0) e
          es,
      ← weighed_all t es,
    ) (omega (arith, here (literal_value t e.literal) (e.soft).weight))
  where
    here : (v : Bool) (n : ℕ) → one_if v * (n / 1) ≡ (if v then n else 0)
    here true n = omega arith
    here false n = omega arith

-- no more is given up than there is
weighed_bound : (t : Assignment) (es : List Relaxed)
    → weighed t es 0 ≤ sum_by (λ e. (e.soft).weight) es
weighed_bound t [] = omega arith
weighed_bound t (e ∷ es) =
    omega (
      arith,
      weighed_bound t es,
      sum_by-cons (λ (e : Relaxed). (e.soft).weight) e es,
      here (literal_value t e.literal) (e.soft).weight,
    )
  where
    here : (v : Bool) (n : ℕ) → one_if v * (n / 1) ≤ n
    here true n = omega arith
    here false n = omega arith

-- the two forms of relaxation
pub relaxed_cases : (relaxing : Relaxing) (v : ℕ) (s : SoftClause) (P : Relaxed → Type 0)
    → P (record { literal = positive v; soft = s; is_fresh = true })
    → ((l : Literal) → s.clause ≡ l ∷ []
    → P (record { literal = negation l; soft = s; is_fresh = false }))
    → P (relaxed_one relaxing v s)
relaxed_cases EachByVariable v s P fresh own = fresh
relaxed_cases UnitsByNegation v s P fresh own = at s.weight s.clause P fresh own
  where
    at : (w : ℕ) (c : List Literal) (P : Relaxed → Type 0)
        → P (record {
          literal = positive v;
          soft = record { weight = w; clause = c };
          is_fresh = true;
        })
        → ((l : Literal) → c ≡ l ∷ []
        → P (record {
          literal = negation l;
          soft = record { weight = w; clause = c };
          is_fresh = false;
        })) → P (relaxed_one UnitsByNegation v (record { weight = w; clause = c }))
    at w [] P fresh own = fresh
    at w (l ∷ []) P fresh own = own l refl
    at w (l ∷ k ∷ c) P fresh own = fresh

pub relaxed_soft : (relaxing : Relaxing) (v : ℕ) (s : SoftClause)
    → (relaxed_one relaxing v s).soft ≡ s
relaxed_soft relaxing v s = relaxed_cases relaxing v s (λ e. e.soft ≡ s) refl (λ l h. refl)

pub relaxed_weights : (relaxing : Relaxing) (v : ℕ) (ss : List SoftClause)
    → sum_by (λ e. (e.soft).weight) (relaxed_from relaxing v ss) ≡ sum_by (λ s. s.weight) ss
relaxed_weights relaxing v [] = refl
relaxed_weights relaxing v (s ∷ ss) =
    let first = relaxed_one relaxing v s in
    let rest = relaxed_from relaxing (if first.is_fresh then v + 1 else v) ss in
    sum_by-cons (λ (e : Relaxed). (e.soft).weight) first rest
    ∙ omega (
      arith,
      relaxed_weights relaxing (if first.is_fresh then v + 1 else v) ss,
      sum_by-cons (λ (s : SoftClause). s.weight) s ss,
      ap (λ (s : SoftClause). s.weight) (relaxed_soft relaxing v s),
    )

-- the weights of those that are given up
abbrev pub given_up : Assignment → List Relaxed → ℕ
given_up t es = sum_by (λ e. if literal_value t e.literal then (e.soft).weight else 0) es

pub along_columns_sum : (t : Assignment) (es : List Relaxed) (total fresh : ℕ)
    → sum_by (λ e. (e.soft).weight) es ≡ total → total < 2 ^ 63
    → AllByRecursion (IsCellOf t) (along_columns es total fresh).cells
    → value_of t (along_columns es total fresh).outputs ≡ given_up t es
along_columns_sum t es total fresh same small =
    outputs_of (binary_length total)
    (omega (arith, weighed_bound t es, binary_length_room total small))
  where
    outputs_of : (more : ℕ) → weighed t es 0 < 2 ^ more
        → AllByRecursion (IsCellOf t) (columns_from (column_of es) more 0 fresh []).cells
        → value_of t (columns_from (column_of es) more 0 fresh []).outputs ≡ given_up t es
    outputs_of more room all =
        columns_sum t (column_of es) (weighed t es) (weighed_more t es) more 0 fresh [] all
        (omega arith) ∙ omega (arith, weighed_all t es)
