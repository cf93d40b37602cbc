-- How many leaves and outputs are true.
use Rattle.std.proofs.Common.{◌≡◌, ℕ, zero, suc, ◌+◌, ◌-◌, ◌/◌, ◌<◌, ◌≤◌, min, Bool, true, false}
use Rattle.std.proofs.Common.{List, [], ◌∷◌, ◌++◌, length, take, drop, refl, ◌∙◌, ap, arith}
use Rattle.std.proofs.Common.{nat_le}
use Rattle.std.specs.Prelude.{Some, slice_get, if◌then◌else◌, count_by}
use Rattle.std.proofs.lemmas.Bool.{leb-true, leb-false}
use Rattle.std.proofs.lemmas.List.{take-append-drop, length-take, length-drop}
use Rattle.std.proofs.lemmas.List.Sums.{sum_by-cons, sum_by-append}
use Rattle.cnf.specs.Literal.{Literal, Assignment, positive, literal_value}
use Rattle.totalizer.specs.Stages.{Tree, Leaf, Node, size_of, outputs_of, stage}
use Rattle.totalizer.specs.Stages.{tree_of, tree_within, totalizer_of, true_leaves}
use Rattle.totalizer.specs.Grown.{MeansRight}
use Rattle.totalizer.proofs.Staging.{stage_node, right_stage}
use Rattle.totalizer.proofs.Unary.{outputs_unary}
use Rattle.totalizer.proofs.Meaning.{stages_leaves}

-- how many literals of a list are true, one after another
count_step : (t : Assignment) (l : Literal) (ls : List Literal)
    → count_by (literal_value t) (l ∷ ls)
    ≡ (if literal_value t l then 1 else 0) + count_by (literal_value t) ls
count_step t l ls = sum_by-cons (λ k. if literal_value t k then 1 else 0) l ls

leaves_within : (t : Assignment) (d : ℕ) (xs : List Literal) → 0 < length xs → length xs ≤ d
    → true_leaves t (tree_within d xs) ≡ count_by (literal_value t) xs
leaves_within t d [] some few = absurd (omega arith)
leaves_within t zero (x ∷ xs) some few = absurd (omega arith)
leaves_within t (suc d) (x ∷ []) some few = omega (arith, count_step t x [])
leaves_within t (suc d) (x ∷ y ∷ more) some few =
    let xs = x ∷ y ∷ more in
    let half = length xs / 2 in
    let front = length-take half xs in
    let back = length-drop half xs in
    let value = literal_value t in
    omega (
      arith,
      leaves_within t d (take half xs) (omega (arith, front)) (omega (arith, front)),
      leaves_within t d (drop half xs) (omega (arith, back)) (omega (arith, back)),
      sum_by-append (λ k. if value k then 1 else 0) (take half xs) (drop half xs),
      ap (count_by value) (take-append-drop half xs),
    )

-- the leaves are the literals
pub tree_of_leaves : (t : Assignment) (xs : List Literal) → 0 < length xs
    → true_leaves t (tree_of xs) ≡ count_by (literal_value t) xs
tree_of_leaves t xs some = leaves_within t (length xs) xs some (omega arith)

pub totalizer_leaves : (t : Assignment) (count v : ℕ) (xs : List Literal) → 0 < length xs
    → true_leaves t (totalizer_of count v xs).tree ≡ count_by (literal_value t) xs
totalizer_leaves t count v xs some =
    stages_leaves t count 1 v (tree_of xs) ∙ tree_of_leaves t xs some

-- any other way to count them, one after another
pub count_steps : (t : Assignment) (count : List Literal → ℕ) → count [] ≡ 0
    → ((l : Literal) (ls : List Literal)
    → count (l ∷ ls) ≡ (if literal_value t l then 1 else 0) + count ls)
    → (xs : List Literal) → count xs ≡ count_by (literal_value t) xs
count_steps t count none one [] = none
count_steps t count none one (x ∷ xs) =
    omega (arith, one x xs, count_step t x xs, count_steps t count none one xs)

-- a number in unary, from the place k on
count_from : (t : Assignment) (xs : List Literal) (n k : ℕ)
    → ((i : ℕ) (l : Literal) → slice_get xs i ≡ Some l
    → literal_value t l ≡ nat_le (i + 1 + k) n)
    → count_by (literal_value t) xs ≡ min (length xs) (n - k)
count_from t [] n k unary = omega arith
count_from t (x ∷ xs) n k unary =
    by (nat_le (1 + k) n) refl
    (count_from t xs n (k + 1)
    (λ i l e. unary (suc i) l e ∙ ap (λ j. nat_le j n) (omega arith)))
  where
    as_number : Bool → ℕ
    as_number b = if b then 1 else 0

    by : (b : Bool) → nat_le (1 + k) n ≡ b
        → count_by (literal_value t) xs ≡ min (length xs) (n - (k + 1))
        → count_by (literal_value t) (x ∷ xs) ≡ min (length (x ∷ xs)) (n - k)
    by true e rest =
        let value : literal_value t x ≡ true = unary 0 x refl ∙ e in
        let more = leb-true (1 + k) n e in
        let one = ap as_number value in
        omega (arith, count_step t x xs, rest, one)
    by false e rest =
        let value : literal_value t x ≡ false = unary 0 x refl ∙ e in
        let less = leb-false (1 + k) n e in
        let one = ap as_number value in
        omega (arith, count_step t x xs, rest, one)

-- as many outputs are true as leaves, as far as there are outputs
pub outputs_value : (t : Assignment) (tree : Tree) → MeansRight t tree
    → count_by (literal_value t) (outputs_of tree)
    ≡ min (length (outputs_of tree)) (true_leaves t tree)
outputs_value t tree means =
    let n = true_leaves t tree in
    let unary = outputs_unary t tree means in
    omega (
      arith,
      count_from t (outputs_of tree) n 0
          (λ i l e. unary i l e ∙ ap (λ j. nat_le j n) (omega arith)),
    )

pub outputs_at_most : (t : Assignment) (tree : Tree) → MeansRight t tree
    → count_by (literal_value t) (outputs_of tree) ≤ true_leaves t tree
outputs_at_most t tree means = omega (arith, outputs_value t tree means)

-- the outputs after a stage are those before, and the last of its variables
pub outputs_next : (h v : ℕ) (tree : Tree) → 1 < size_of tree → h ≤ size_of tree
    → outputs_of (stage h v tree).tree
    ≡ outputs_of tree ++ positive ((stage h v tree).fresh - 1) ∷ []
outputs_next h v (Leaf l) some many = absurd (omega arith)
outputs_next h v (Node a b own) some many =
    let r = (right_stage h v a b).fresh in
    let last = ap (λ s. s.fresh - 1) (stage_node h v a b own many) in
    let same : r ≡ (stage h v (Node a b own)).fresh - 1 = omega (arith, last) in
    ap (λ s. outputs_of s.tree) (stage_node h v a b own many)
    ∙ ap (λ x. own ++ positive x ∷ []) same
