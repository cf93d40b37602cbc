-- How many cells and outputs columns have.
use Rattle.std.proofs.Common.{◌≡◌, ℕ, zero, suc, ◌+◌, ◌*◌, ◌/◌, ◌^◌, ◌<◌, ◌≤◌, Bool, true, false}
use Rattle.std.proofs.Common.{List, [], ◌∷◌, ◌++◌, length, filter, ◌==◌, if◌then◌else◌, refl, sym}
use Rattle.std.proofs.Common.{ap, subst, arith, pow-suc}
use Rattle.std.proofs.lemmas.Bool.{eqb-false}
use Rattle.std.proofs.lemmas.List.{length-append, length-map}
use Rattle.std.proofs.lemmas.List.Sums.{length-filter, count_by-le-length}
use Rattle.cnf.specs.Literal.{Literal, positive}
use Rattle.cnf.specs.Problem.{Problem, SoftClause}
use Rattle.adder.specs.declared.profiles.Profile.{Profile}
use Rattle.adder.specs.declared.profiles.Relaxing.{Relaxing}
use Rattle.adder.specs.Network.{relaxing_of}
use Rattle.adder.specs.Network.{Relaxed, bit, binary_length, relaxed_one, relaxed_from, relaxed_as}
use Rattle.adder.specs.Network.{column_of, added_up, columns_from}
use Rattle.adder.proofs.Sums.{length_in}

-- a column's cells are at most half of what it adds, and each has a carry
column_cells : (steps n : ℕ) (ls : List Literal)
    → (2 * length (added_up steps n ls).cells ≤ length ls)
    × (length (added_up steps n ls).carries ≡ length (added_up steps n ls).cells)
column_cells steps n [] = (omega arith, refl)
column_cells steps n (a ∷ []) = (omega arith, refl)
column_cells zero n (a ∷ b ∷ rest) = (omega arith, refl)
column_cells (suc steps) n (a ∷ b ∷ []) =
    let r = column_cells steps (n + 2) (positive n ∷ []) in
    (omega (arith, r.0), ap suc r.1)
column_cells (suc steps) n (a ∷ b ∷ d ∷ rest) =
    let r = column_cells steps (n + 2) (rest ++ positive n ∷ []) in
    (omega (arith, r.0, length-append rest (positive n ∷ [])), ap suc r.1)

pub filter_le : {X : Type 0} (p : X → Bool) (xs : List X) → length (filter p xs) ≤ length xs
filter_le p xs = subst (λ n. n ≤ length xs) (sym (length-filter p xs)) (count_by-le-length p xs)

pub column_le : (es : List Relaxed) (j : ℕ) → length (column_of es j) ≤ length es
column_le es j =
    subst (λ n. n ≤ length es)
    (sym (length-map (filter (λ (e : Relaxed). bit (e.soft).weight j) es) (λ e. e.literal)))
    (filter_le (λ e. bit (e.soft).weight j) es)

-- columns of at most m literals, where k carries are enough
pub columns_cells : (column : ℕ → List Literal) (m k : ℕ) → ((j : ℕ) → length (column j) ≤ m)
    → m ≤ k + 1 → (more j n : ℕ) (carries : List Literal) → length carries ≤ k
    → length (columns_from column more j n carries).cells ≤ more * k
columns_cells column m k short enough zero j n carries h = omega arith
columns_cells column m k short enough (suc more) j n carries h =
    let ls = column j ++ carries in
    let sum = added_up (length ls) n ls in
    let r = column_cells (length ls) n ls in
    let rest = columns_from column more (j + 1) sum.fresh sum.carries in
    let few : length sum.carries ≤ k =
    omega (arith, r.0, r.1, short j, length-append (column j) carries) in
    omega (
      arith,
      length-append sum.cells rest.cells,
      columns_cells column m k short enough more (j + 1) sum.fresh sum.carries few,
      r.1,
      few,
    )

pub columns_outputs : (column : ℕ → List Literal) (more j n : ℕ) (carries : List Literal)
    → length (columns_from column more j n carries).outputs ≡ more
columns_outputs column zero j n carries = refl
columns_outputs column (suc more) j n carries =
    let ls = column j ++ carries in
    let sum = added_up (length ls) n ls in
    ap suc (columns_outputs column more (j + 1) sum.fresh sum.carries)

-- a number below 2 ^ k has at most k digits
length_in_below : (f k n : ℕ) → n < 2 ^ k → length_in f n ≤ k
length_in_below zero k n h = omega arith
length_in_below (suc f) k n h =
    elim (n == 0) as (λ b. (n == 0) ≡ b → (if b then 0 else suc (length_in f (n / 2))) ≤ k) [
      | true ↦ λ e. omega arith
      | false ↦ λ e. below k (λ k l. length_in_below f k (n / 2) l) h (eqb-false n 0 e)
    ] refl
  where
    below : (k : ℕ) → ((k : ℕ) → n / 2 < 2 ^ k → length_in f (n / 2) ≤ k) → n < 2 ^ k → (n ≡ 0 → ⊥)
        → suc (length_in f (n / 2)) ≤ k
    below zero rest l apart = absurd (apart (omega arith))
    below (suc k) rest l apart = omega (arith, rest k (omega (arith, pow-suc 2 k)))

pub binary_length_few : (n : ℕ) → n < 2 ^ 62 → binary_length n ≤ 62
binary_length_few n h = length_in_below 63 62 n h

pub relaxed_length : (relaxing : Relaxing) (v : ℕ) (ss : List SoftClause)
    → length (relaxed_from relaxing v ss) ≡ length ss
relaxed_length relaxing v [] = refl
relaxed_length relaxing v (s ∷ ss) =
    ap suc (relaxed_length relaxing (if (relaxed_one relaxing v s).is_fresh then v + 1 else v) ss)

pub fresh_few : (profile : Profile) (p : Problem)
    → length (filter (λ e. e.is_fresh) (relaxed_as profile p)) ≤ length p.soft
fresh_few profile p =
    subst (λ n. length (filter (λ e. e.is_fresh) (relaxed_as profile p)) ≤ n)
    (relaxed_length (relaxing_of profile) (p.variables + 1) p.soft)
    (filter_le (λ e. e.is_fresh) (relaxed_as profile p))
