-- Trees that have any number of stages get one more.
use Rattle.std.proofs.Common.{◌≡◌, ℕ, zero, suc, ◌+◌, ◌-◌, ◌/◌, ◌<◌, ◌≤◌, min, Bool, true, false}
use Rattle.std.proofs.Common.{List, [], ◌∷◌, length, take, drop, refl, arith}
use Rattle.std.proofs.Common.{nat_le, length-append, subst}
use Rattle.std.proofs.lemmas.Bool.{leb-true, leb-false}
use Rattle.std.proofs.lemmas.List.{length-take, length-drop}
use Rattle.cnf.specs.Literal.{Literal, positive}
use Rattle.totalizer.specs.Stages.{Tree, Leaf, Node, size_of, outputs_of, stage, stages}
use Rattle.totalizer.specs.Stages.{tree_of, tree_within, totalizer_of, order_clause}
use Rattle.totalizer.specs.Grown.{HasStages}
use Rattle.totalizer.proofs.Staging.{stage_takes, size_positive}
use Rattle.totalizer.proofs.Staging.{right_stage, outputs_grow}
use Rattle.totalizer.proofs.Counting.{joined_count, order_one}

bare_within : (d : ℕ) (xs : List Literal) → HasStages 0 (tree_within d xs)
bare_within d [] = tt
bare_within zero (x ∷ xs) = tt
bare_within (suc d) (x ∷ []) = tt
bare_within (suc d) (x ∷ y ∷ more) =
    let half = length (x ∷ y ∷ more) / 2 in (
      bare_within d (take half (x ∷ y ∷ more)),
      bare_within d (drop half (x ∷ y ∷ more)),
      omega arith,
    )

-- before the first stage
pub bare_has : (xs : List Literal) → HasStages 0 (tree_of xs)
bare_has xs = bare_within (length xs) xs

size_within : (d : ℕ) (xs : List Literal) → 0 < length xs → length xs ≤ d
    → size_of (tree_within d xs) ≡ length xs
size_within d [] some few = absurd (omega arith)
size_within zero (x ∷ xs) some few = absurd (omega arith)
size_within (suc d) (x ∷ []) some few = refl
size_within (suc d) (x ∷ y ∷ more) some few =
    let xs = x ∷ y ∷ more in
    let half = length xs / 2 in
    let front = length-take half xs in
    let back = length-drop half xs in
    omega (
      arith,
      front,
      back,
      size_within d (take half xs) (omega (arith, front)) (omega (arith, front)),
      size_within d (drop half xs) (omega (arith, back)) (omega (arith, back)),
    )

-- its leaves are the literals
pub tree_of_size : (xs : List Literal) → 0 < length xs → size_of (tree_of xs) ≡ length xs
tree_of_size xs some = size_within (length xs) xs some (omega arith)

-- where a tree is too small for a stage, it has as many as before
few_enough : (h k : ℕ) (t : Tree) → size_of t ≤ h → h ≤ k → HasStages h t → HasStages k t
few_enough h k (Leaf l) few more has = tt
few_enough h k (Node a b own) few more has = (
  few_enough h k a (omega arith) more has.0,
  few_enough h k b (omega arith) more has.1,
  omega (arith, has.2),
)

-- the next stage
pub stage_has : (h v : ℕ) (t : Tree) → HasStages h t → HasStages (h + 1) (stage (h + 1) v t).tree
stage_has h v (Leaf l) has = tt
stage_has h v (Node a b own) has =
    by (nat_le (h + 1) (size_of a + size_of b)) refl (stage_has h v a has.0)
    (stage_has h (stage (h + 1) v a).fresh b has.1)
  where
    by : (x : Bool) → nat_le (h + 1) (size_of a + size_of b) ≡ x
        → HasStages (h + 1) (stage (h + 1) v a).tree
        → HasStages (h + 1) (right_stage (h + 1) v a b).tree
        → HasStages (h + 1) (stage (h + 1) v (Node a b own)).tree
    by true e left right =
        let many = leb-true (h + 1) (size_of a + size_of b) e in
        let right_takes = stage_takes (h + 1) (stage (h + 1) v a).fresh b in
        rw e (
          left,
          right,
          omega (
            arith,
            has.2,
            length-append own (positive (right_stage (h + 1) v a b).fresh ∷ []),
            (stage_takes (h + 1) v a).same_size,
            right_takes.same_size,
          ),
        )
    by false e left right =
        let few = leb-false (h + 1) (size_of a + size_of b) e in
        rw e (few_enough h (h + 1) (Node a b own) (omega arith) (omega arith) has)

-- `count` more stages
pub stages_has : (count h v : ℕ) (t : Tree) → HasStages h t
    → HasStages (h + count) (stages count (h + 1) v t).tree
stages_has zero h v t has = subst (λ k. HasStages k t) (omega arith) has
stages_has (suc count) h v t has =
    let first = stage (h + 1) v t in
    let more = stages_has count (h + 1) first.fresh first.tree (stage_has h v t has) in
    subst (λ k. HasStages k (stages count (h + 1 + 1) first.fresh first.tree).tree) (omega arith)
    more

-- a tree that has as many stages as outputs
pub outputs_count : (h : ℕ) (t : Tree) → HasStages h t → 1 ≤ h → h ≤ size_of t
    → length (outputs_of t) ≡ h
outputs_count h (Leaf l) has some few = omega arith
outputs_count h (Node a b own) has some few = omega (arith, has.2)

-- a count that has fewer outputs than leaves gets one more
pub outputs_more : (v : ℕ) (t : Tree) → length (outputs_of t) < size_of t
    → length (outputs_of (stage (length (outputs_of t) + 1) v t).tree) ≡ length (outputs_of t) + 1
outputs_more v (Leaf l) few = absurd (omega arith)
outputs_more v (Node a b own) few = outputs_grow (length own + 1) v a b own (omega arith)

-- there is an output after a stage
some_output : (h v : ℕ) (t : Tree) → HasStages h t
    → 1 ≤ length (outputs_of (stage (h + 1) v t).tree)
some_output h v t has = by (stage (h + 1) v t).tree (stage_has h v t has)
  where
    by : (u : Tree) → HasStages (h + 1) u → 1 ≤ length (outputs_of u)
    by (Leaf l) g = omega arith
    by (Node a b own) g = omega (arith, g.2, size_positive a)

-- a node that gets an output makes a clause of its own: for 0 on the left in the first stage, and
-- that of the order later
own_clause : (h v : ℕ) (a b : Tree) (own : List Literal) → HasStages h (Node a b own)
    → h + 1 ≤ size_of a + size_of b
    → 1 ≤ (min (length (outputs_of (stage (h + 1) v a).tree)) (h + 1) + 1
    - (h + 1 - length (outputs_of (right_stage (h + 1) v a b).tree)))
    + length (order_clause own (right_stage (h + 1) v a b).fresh)
own_clause zero v a b own has many =
    let right = some_output 0 (stage 1 v a).fresh b has.1 in
    omega arith
own_clause (suc h) v a b own has many =
    let order = order_one own (right_stage (suc h + 1) v a b).fresh (omega (arith, has.2)) in
    omega arith

-- each new variable comes with a clause
pub stage_worth : (h v : ℕ) (t : Tree) → HasStages h t
    → (stage (h + 1) v t).fresh ≤ v + length (stage (h + 1) v t).clauses
stage_worth h v (Leaf l) has = omega arith
stage_worth h v (Node a b own) has =
    by (nat_le (h + 1) (size_of a + size_of b)) refl (stage_worth h v a has.0)
    (stage_worth h (stage (h + 1) v a).fresh b has.1)
  where
    by : (x : Bool) → nat_le (h + 1) (size_of a + size_of b) ≡ x
        → (stage (h + 1) v a).fresh ≤ v + length (stage (h + 1) v a).clauses
        → (right_stage (h + 1) v a b).fresh
        ≤ (stage (h + 1) v a).fresh + length (right_stage (h + 1) v a b).clauses
        → (stage (h + 1) v (Node a b own)).fresh
        ≤ v + length (stage (h + 1) v (Node a b own)).clauses
    by true e p q =
        let left = stage (h + 1) v a in
        let right = right_stage (h + 1) v a b in
        let many = leb-true (h + 1) (size_of a + size_of b) e in
        let own_one = own_clause h v a b own has many in
        let count = joined_count (h + 1) own left.clauses right.clauses left.tree right.tree
        right.fresh in
        rw e (omega arith)
    by false e p q = rw e (omega arith)

-- `count` more stages
pub stages_worth : (count h v : ℕ) (t : Tree) → HasStages h t
    → (stages count (h + 1) v t).fresh ≤ v + length (stages count (h + 1) v t).clauses
stages_worth zero h v t has = omega arith
stages_worth (suc count) h v t has =
    let first = stage (h + 1) v t in
    let more = stages count (h + 1 + 1) first.fresh first.tree in
    omega (
      arith,
      stage_worth h v t has,
      stages_worth count (h + 1) first.fresh first.tree (stage_has h v t has),
      length-append first.clauses more.clauses,
    )

-- `count` stages of a tree without any
pub totalizer_has : (count v : ℕ) (xs : List Literal)
    → HasStages count (totalizer_of count v xs).tree
totalizer_has count v xs =
    subst (λ k. HasStages k (totalizer_of count v xs).tree) (omega arith)
    (stages_has count 0 v (tree_of xs) (bare_has xs))

pub totalizer_worth : (count v : ℕ) (xs : List Literal)
    → (totalizer_of count v xs).fresh ≤ v + length (totalizer_of count v xs).clauses
totalizer_worth count v xs = stages_worth count 0 v (tree_of xs) (bare_has xs)
