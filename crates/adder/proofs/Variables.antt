-- What holds of the variables that the cells and the outputs name.
use Rattle.std.proofs.Common.{◌≡◌, ℕ, zero, suc, ◌+◌, ◌*◌, ◌<◌, ◌≤◌, true, false, List, [], ◌∷◌}
use Rattle.std.proofs.Common.{◌++◌, length, map, filter, Option, Some, None, if◌then◌else◌, subst}
use Rattle.std.proofs.Common.{arith}
use Rattle.std.specs.List.{AllByRecursion}
use Rattle.std.proofs.lemmas.List.{length-append}
use Rattle.cnf.specs.Literal.{Literal, positive}
use Rattle.cnf.specs.Problem.{SoftClause}
use Rattle.adder.specs.declared.cells.Cell.{Cell}
use Rattle.adder.specs.declared.profiles.Relaxing.{Relaxing}
use Rattle.adder.specs.Network.{Relaxed, bit, relaxed_from, column_of, added_up, columns_from}
use Rattle.adder.proofs.Sums.{relaxed_cases}

-- a column takes two variables for each cell
pub column_fresh : (steps n : ℕ) (ls : List Literal)
    → (added_up steps n ls).fresh ≡ n + 2 * length (added_up steps n ls).cells
column_fresh steps n [] = omega arith
column_fresh steps n (a ∷ []) = omega arith
column_fresh zero n (a ∷ b ∷ rest) = omega arith
column_fresh (suc steps) n (a ∷ b ∷ []) =
    omega (arith, column_fresh steps (n + 2) (positive n ∷ []))
column_fresh (suc steps) n (a ∷ b ∷ d ∷ rest) =
    omega (arith, column_fresh steps (n + 2) (rest ++ positive n ∷ []))

-- Q holds of the variables
module _ (Q : ℕ → Type 0) where
  abbrev pub AreOf : List Literal → Type 0
  AreOf ls = AllByRecursion (λ l. Q l.variable) ls

  abbrev pub IsOutputOf : Option Literal → Type 0
  IsOutputOf None = Unit {0}
  IsOutputOf (Some l) = Q l.variable

  pub record IsCellWith (cell : Cell) : Type 0 where
    pub a : Q (cell.a).variable
    pub b : Q (cell.b).variable
    pub third : IsOutputOf cell.third
    pub sum : Q cell.sum
    pub carry : Q cell.carry

  pub of_append : (xs ys : List Literal) → AreOf xs → AreOf ys → AreOf (xs ++ ys)
  of_append [] ys h k = k
  of_append (x ∷ xs) ys h k = (h.0, of_append xs ys h.1 k)

  pub all_append : (xs ys : List Cell) → AllByRecursion IsCellWith xs → AllByRecursion IsCellWith ys
      → AllByRecursion IsCellWith (xs ++ ys)
  all_append [] ys h k = k
  all_append (x ∷ xs) ys h k = (h.0, all_append xs ys h.1 k)

  column_with : (steps n : ℕ) (ls : List Literal) → AreOf ls
      → ((v : ℕ) → n ≤ v → v < n + 2 * length (added_up steps n ls).cells → Q v)
      → AllByRecursion IsCellWith (added_up steps n ls).cells
      × IsOutputOf (added_up steps n ls).output × AreOf (added_up steps n ls).carries
  column_with steps n [] h f = (tt, tt, tt)
  column_with steps n (a ∷ []) h f = (tt, h.0, tt)
  column_with zero n (a ∷ b ∷ rest) h f = (tt, tt, tt)
  column_with (suc steps) n (a ∷ b ∷ []) h f =
      let s : Q n = f n (omega arith) (omega arith) in
      let c : Q (n + 1) = f (n + 1) (omega arith) (omega arith) in
      let r =
      column_with steps (n + 2) (positive n ∷ []) (
        s,
        tt,
      ) (λ v l k. f v (omega arith) (omega arith)) in
      ((record { a = h.0; b = h.1.0; third = tt; sum = s; carry = c }, r.0), r.1, (c, r.2))
  column_with (suc steps) n (a ∷ b ∷ d ∷ rest) h f =
      let s : Q n = f n (omega arith) (omega arith) in
      let c : Q (n + 1) = f (n + 1) (omega arith) (omega arith) in
      let r =
      column_with steps (n + 2) (rest ++ positive n ∷ [])
      (of_append rest (positive n ∷ []) h.1.1.1 (s, tt))
      (λ v l k. f v (omega arith) (omega arith)) in
      ((record { a = h.0; b = h.1.0; third = h.1.1.0; sum = s; carry = c }, r.0), r.1, (c, r.2))

  pub column_of_with : (es : List Relaxed) (j : ℕ) → AllByRecursion (λ e. Q (e.literal).variable) es
      → AreOf (column_of es j)
  column_of_with [] j h = tt
  column_of_with (e ∷ es) j h =
      elim (bit (e.soft).weight j)
      as (λ b. AreOf (map (λ e. e.literal) (if b then e ∷ filter (λ e. bit (e.soft).weight j) es
      else filter (λ e. bit (e.soft).weight j) es))) [
        | true ↦ (h.0, column_of_with es j h.1)
        | false ↦ column_of_with es j h.1
      ]

  pub columns_with : (column : ℕ → List Literal) (more j n : ℕ) (carries : List Literal)
      → ((j : ℕ) → AreOf (column j)) → AreOf carries
      → ((v : ℕ) → n ≤ v → v < n + 2 * length (columns_from column more j n carries).cells → Q v)
      → AllByRecursion IsCellWith (columns_from column more j n carries).cells
      × AllByRecursion IsOutputOf (columns_from column more j n carries).outputs
  columns_with column zero j n carries h k f = (tt, tt)
  columns_with column (suc more) j n carries h k f =
      let ls = column j ++ carries in
      let sum = added_up (length ls) n ls in
      let rest = columns_from column more (j + 1) sum.fresh sum.carries in
      let many = length-append sum.cells rest.cells in
      let next = column_fresh (length ls) n ls in
      let c =
      column_with (length ls) n ls (of_append (column j) carries (h j) k)
      (λ v l u. f v l (omega (arith, many))) in
      let r =
      columns_with column more (j + 1) sum.fresh sum.carries h c.2
      (λ v l u. f v (omega (arith, next)) (omega (arith, many, next))) in
      (all_append sum.cells rest.cells c.0 r.0, (c.1, r.1))

  -- the relaxation literals are those of the clauses, or new
  pub relaxed_with : (relaxing : Relaxing) (v : ℕ) (ss : List SoftClause)
      → AllByRecursion (λ s. AreOf s.clause) ss
      → ((x : ℕ) → v ≤ x → x < v + length (filter (λ e. e.is_fresh) (relaxed_from relaxing v ss))
      → Q x)
      → AllByRecursion (λ e. AreOf (e.soft).clause × Q (e.literal).variable)
      (relaxed_from relaxing v ss)
  relaxed_with relaxing v [] h = λ f. tt
  relaxed_with relaxing v (s ∷ ss) h =
      relaxed_cases relaxing v s
      (λ e. ((x : ℕ) → v ≤ x
      → x < v + length (filter (λ e. e.is_fresh)
      (e ∷ relaxed_from relaxing (if e.is_fresh then v + 1 else v) ss)) → Q x)
      → AllByRecursion (λ e. AreOf (e.soft).clause × Q (e.literal).variable)
      (e ∷ relaxed_from relaxing (if e.is_fresh then v + 1 else v) ss))
      (λ f. (
        (h.0, f v (omega arith) (omega arith)),
        relaxed_with relaxing (v + 1) ss h.1 (λ x l u. f x (omega arith) (omega arith)),
      ))
      (λ l same f. ((h.0, (subst AreOf same h.0).0), relaxed_with relaxing v ss h.1 f))
