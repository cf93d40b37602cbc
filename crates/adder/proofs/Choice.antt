-- Each assignment extends to the relaxation literals, and then to the cells.
use Rattle.std.proofs.Common.{◌≡◌, ℕ, zero, suc, ◌+◌, ◌*◌, ◌%◌, ◌<◌, ◌≤◌, Bool, true, false, not}
use Rattle.std.proofs.Common.{◌||◌, List, [], ◌∷◌, ◌++◌, length, map, filter, Option, Some, None}
use Rattle.std.proofs.Common.{◌==◌, nat_le, if◌then◌else◌, All, refl, sym, ◌∙◌, ap, subst, arith}
use Rattle.std.specs.List.{AllByRecursion}
use Rattle.std.proofs.lemmas.List.Elements.{All-from_recursion}
use Rattle.cnf.specs.Numbers.{one_if}
use Rattle.cnf.specs.Literal.{Assignment, Literal, negation, literal_value, positive}
use Rattle.cnf.specs.Literal.{put, SameBelow}
use Rattle.cnf.specs.Clause.{AreBelow, clause_value, greatest_variable}
use Rattle.cnf.specs.Problem.{SoftClause, AreWithin}
use Rattle.cnf.proofs.Laws.{below_more, put_here, put_other, one_if_le}
use Rattle.adder.specs.declared.cells.Cell.{Cell}
use Rattle.adder.specs.declared.profiles.Relaxing.{Relaxing}
use Rattle.adder.specs.Network.{Relaxed, Column, bit, relaxed_from, column_of, added_up}
use Rattle.adder.specs.Network.{columns_from, third_of, IsCellOf, SameUpTo}
use Rattle.adder.proofs.Sums.{relaxed_cases}

pub literal_same : (t u : Assignment) (l : Literal) → u l.variable ≡ t l.variable
    → literal_value u l ≡ literal_value t l
literal_same t u l e = ap (λ b. if l.negated then not b else b) e

pub clause_same : (t u : Assignment) (c : List Literal)
    → ((v : ℕ) → v ≤ greatest_variable c → u v ≡ t v) → clause_value u c ≡ clause_value t c
clause_same t u [] h = refl
clause_same t u (l ∷ c) h =
    λ i. literal_same t u l (h l.variable (omega arith)) i || clause_same t u c
    (λ v k. h v (omega arith)) i

-- each cell takes the next two variables, and what it adds is below those
abbrev pub IsThirdBelow : ℕ → Option Literal → Type 0
IsThirdBelow n None = Unit {0}
IsThirdBelow n (Some d) = d.variable < n

abbrev pub IsChain : ℕ → List Cell → Type 0
IsChain n [] = Unit {0}
IsChain n (cell ∷ cells) = ((cell.a).variable < n) × ((cell.b).variable < n)
    × IsThirdBelow n cell.third × (cell.sum ≡ n) × (cell.carry ≡ n + 1) × IsChain (n + 2) cells

pub chain_append : (n : ℕ) (xs ys : List Cell) (m : ℕ) → m ≡ n + 2 * length xs → IsChain n xs
    → IsChain m ys → IsChain n (xs ++ ys)
chain_append n [] ys m e h k = subst (λ x. IsChain x ys) (omega arith) k
chain_append n (x ∷ xs) ys m e h k =
    (h.0, h.1, h.2, h.3, h.4, chain_append (n + 2) xs ys m (omega arith) h.5 k)

pub below_append : (n : ℕ) (xs ys : List Literal) → AreBelow n xs → AreBelow n ys
    → AreBelow n (xs ++ ys)
below_append n [] ys h k = k
below_append n (x ∷ xs) ys h k = (h.0, below_append n xs ys h.1 k)

-- what is known of a column that begins at n
pub record IsColumnFrom (n : ℕ) (column : Column) : Type 0 where
  pub chain : IsChain n column.cells
  pub fresh : column.fresh ≡ n + 2 * length column.cells
  pub carries : AreBelow column.fresh column.carries

pub column_chain : (steps n : ℕ) (ls : List Literal) → AreBelow n ls
    → IsColumnFrom n (added_up steps n ls)
column_chain steps n [] h = record { chain = tt; fresh = omega arith; carries = tt }
column_chain steps n (a ∷ []) h = record { chain = tt; fresh = omega arith; carries = tt }
column_chain zero n (a ∷ b ∷ rest) h = record { chain = tt; fresh = omega arith; carries = tt }
column_chain (suc steps) n (a ∷ b ∷ []) h =
    let r = column_chain steps (n + 2) (positive n ∷ []) (omega arith, tt) in
    record {
      chain = (h.0, h.1.0, tt, refl, refl, r.chain);
      fresh = omega (arith, r.fresh);
      carries = (omega (arith, r.fresh), r.carries);
    }
column_chain (suc steps) n (a ∷ b ∷ d ∷ rest) h =
    let r =
    column_chain steps (n + 2) (rest ++ positive n ∷ [])
    (below_append (n + 2) rest (positive n ∷ [])
    (below_more n (n + 2) rest (omega arith) h.1.1.1) (omega arith, tt)) in
    record {
      chain = (h.0, h.1.0, h.1.1.0, refl, refl, r.chain);
      fresh = omega (arith, r.fresh);
      carries = (omega (arith, r.fresh), r.carries);
    }

abbrev pub AreRelaxedBelow : ℕ → List Relaxed → Type 0
AreRelaxedBelow n es = AllByRecursion (λ e. (e.literal).variable < n) es

pub column_below : (n : ℕ) (es : List Relaxed) (j : ℕ) → AreRelaxedBelow n es
    → AreBelow n (column_of es j)
column_below n [] j h = tt
column_below n (e ∷ es) j h =
    elim (bit (e.soft).weight j)
    as (λ b. AreBelow n
    (map (λ e. e.literal) (if b then e ∷ filter (λ e. bit (e.soft).weight j) es
    else filter (λ e. bit (e.soft).weight j) es))) [
      | true ↦ (h.0, column_below n es j h.1)
      | false ↦ column_below n es j h.1
    ]

pub columns_chain : (column : ℕ → List Literal) (more j n : ℕ) (carries : List Literal)
    → ((j : ℕ) → AreBelow n (column j)) → AreBelow n carries
    → IsChain n (columns_from column more j n carries).cells
columns_chain column zero j n carries h k = tt
columns_chain column (suc more) j n carries h k =
    let ls = column j ++ carries in
    let sum = added_up (length ls) n ls in
    let r = column_chain (length ls) n ls (below_append n (column j) carries (h j) k) in
    chain_append n sum.cells (columns_from column more (j + 1) sum.fresh sum.carries).cells
    sum.fresh r.fresh r.chain
    (columns_chain column more (j + 1) sum.fresh sum.carries
    (λ i. below_more n sum.fresh (column i) (omega (arith, r.fresh)) (h i)) r.carries)

-- what a cell adds
abbrev inputs : Assignment → Cell → ℕ
inputs t cell =
    one_if (literal_value t cell.a) + one_if (literal_value t cell.b) + third_of t cell.third

third_same : (n : ℕ) (t u : Assignment) (o : Option Literal) → SameBelow n t u → IsThirdBelow n o
    → third_of u o ≡ third_of t o
third_same n t u None s h = refl
third_same n t u (Some d) s h = ap one_if (literal_same t u d (s d.variable h))

third_le : (t : Assignment) (o : Option Literal) → third_of t o ≤ 1
third_le t None = omega arith
third_le t (Some d) = one_if_le (literal_value t d)

two_bits : (n : ℕ) → n ≤ 3 → 2 * one_if (nat_le 2 n) + one_if (n % 2 == 1) ≡ n
two_bits zero h = refl
two_bits (suc zero) h = refl
two_bits (suc (suc zero)) h = refl
two_bits (suc (suc (suc zero))) h = refl
two_bits (suc (suc (suc (suc n)))) h = absurd (omega arith)

pub cells_choice : (n : ℕ) (cells : List Cell) (t : Assignment) → IsChain n cells
    → (u : Assignment) × SameBelow n t u × AllByRecursion (IsCellOf u) cells
cells_choice n [] t h = (t, λ v k. refl, tt)
cells_choice n (cell ∷ cells) t h =
    let m = inputs t cell in
    let s = m % 2 == 1 in
    let c = nat_le 2 m in
    let w = put (put t n s) (n + 1) c in
    let r = cells_choice (n + 2) cells w h.5 in
    let same : SameBelow n t r.0 = λ v k. r.1 v (omega arith)
    ∙ put_other (put t n s) (n + 1) v c (omega arith) ∙ put_other t n v s (omega arith) in
    let sum : r.0 cell.sum ≡ s = ap r.0 h.3 ∙ r.1 n (omega arith)
    ∙ put_other (put t n s) (n + 1) n c (omega arith) ∙ put_here t n s in
    let carry : r.0 cell.carry ≡ c = ap r.0 h.4 ∙ r.1 (n + 1) (omega arith)
    ∙ put_here (put t n s) (n + 1) c in
    let a : one_if (literal_value r.0 cell.a) ≡ one_if (literal_value t cell.a) =
    ap one_if (literal_same t r.0 cell.a (same _ h.0)) in
    let b : one_if (literal_value r.0 cell.b) ≡ one_if (literal_value t cell.b) =
    ap one_if (literal_same t r.0 cell.b (same _ h.1)) in
    let third = third_same n t r.0 cell.third same h.2 in (
      r.0,
      same,
      (
        omega (
          arith,
          two_bits m (omega (
            arith,
            one_if_le (literal_value t cell.a),
            one_if_le (literal_value t cell.b),
            third_le t cell.third,
          )),
          ap one_if sum,
          ap one_if carry,
          a,
          b,
          third,
        ),
        r.2,
      ),
    )

pub relaxed_below : (n : ℕ) (relaxing : Relaxing) (v : ℕ) (ss : List SoftClause) (m : ℕ)
    → AreWithin n ss → n < v
    → v + length (filter (λ e. e.is_fresh) (relaxed_from relaxing v ss)) ≤ m
    → AreRelaxedBelow m (relaxed_from relaxing v ss)
relaxed_below n relaxing v [] m h k = λ room. tt
relaxed_below n relaxing v (s ∷ ss) m h k =
    relaxed_cases relaxing v s
    (λ e. v + length (filter (λ e. e.is_fresh)
    (e ∷ relaxed_from relaxing (if e.is_fresh then v + 1 else v) ss)) ≤ m
    → AreRelaxedBelow m (e ∷ relaxed_from relaxing (if e.is_fresh then v + 1 else v) ss))
    (λ room. (omega arith, relaxed_below n relaxing (v + 1) ss m h.1 (omega arith) (omega arith)))
    (λ l e room. (
      omega (arith, h.0, ap greatest_variable e),
      relaxed_below n relaxing v ss m h.1 k room,
    ))

-- each choice of the variables up to n extends to the cells after them
pub chain_extends : (n : ℕ) (cells : List Cell) (t : Assignment) → IsChain (n + 1) cells
    → (u : Assignment) × SameUpTo n t u × All (IsCellOf u) cells
chain_extends n cells t h =
    let r = cells_choice (n + 1) cells t h in
    (r.0, λ v k. r.1 v (omega arith), All-from_recursion (IsCellOf r.0) cells r.2)

negation_value : (t : Assignment) (l : Literal)
    → literal_value t (negation l) ≡ not (literal_value t l || false)
negation_value t l = by l.negated (t l.variable)
  where
    by : (n v : Bool) → (if not n then not v else v) ≡ not ((if n then not v else v) || false)
    by true true = refl
    by true false = refl
    by false true = refl
    by false false = refl

-- a relaxation literal is true just where its clause is false
abbrev pub IsRelaxedTightly : Assignment → Relaxed → Type 0
IsRelaxedTightly t e = literal_value t e.literal ≡ not (clause_value t (e.soft).clause)

pub relaxed_choice : (n : ℕ) (relaxing : Relaxing) (v : ℕ) (ss : List SoftClause) (u : Assignment)
    → AreWithin n ss → n < v → (t : Assignment)
    × SameBelow v u t × AllByRecursion (IsRelaxedTightly t) (relaxed_from relaxing v ss)
relaxed_choice n relaxing v [] u h k = (u, λ x l. refl, tt)
relaxed_choice n relaxing v (s ∷ ss) u h k =
    relaxed_cases relaxing v s (λ e. (t : Assignment) × SameBelow v u t
    × AllByRecursion (IsRelaxedTightly t)
    (e ∷ relaxed_from relaxing (if e.is_fresh then v + 1 else v) ss))
    (let b = not (clause_value u s.clause) in
    let r = relaxed_choice n relaxing (v + 1) ss (put u v b) h.1 (omega arith) in
    let same : SameBelow v u r.0 = λ x l. r.1 x (omega arith) ∙ put_other u v x b (omega arith) in (
      r.0,
      same,
      (
        r.1 v (omega arith) ∙ put_here u v b
            ∙ ap not (sym (clause_same u r.0 s.clause (λ x l. same x (omega (arith, h.0))))),
        r.2,
      ),
    ))
    (λ l e.
    let r = relaxed_choice n relaxing v ss u h.1 k in
    (r.0, r.1, (negation_value r.0 l ∙ ap (λ c. not (clause_value r.0 c)) (sym e), r.2)))
