-- The variables of a tree and of the clauses of its stages, and the shape of these clauses.
use Rattle.std.proofs.Common.{◌≡◌, ◌≢◌, ℕ, zero, suc, ◌+◌, ◌-◌, ◌*◌, ◌/◌, ◌<◌, ◌≤◌, Bool, true}
use Rattle.std.proofs.Common.{false}
use Rattle.std.proofs.Common.{List, [], ◌∷◌, ◌++◌, length, take, drop, refl, sym, ◌∙◌, ap, arith}
use Rattle.std.proofs.Common.{subst, inl, inr, ◌⊎◌, nat_le}
use Rattle.std.specs.Prelude.{Option, Some, None, slice_get}
use Rattle.std.specs.List.{AllByRecursion}
use Rattle.std.proofs.lemmas.List.{take-append-drop, length-take, length-drop}
use Rattle.cnf.specs.Literal.{Literal, positive, negative, negation}
use Rattle.cnf.specs.Clause.{has_repeat, is_tautology, greatest_variable, AreBelow}
use Rattle.cnf.proofs.Laws.{all_append, all_parts, all_weaker}
use Rattle.totalizer.specs.Stages.{Tree, Leaf, Node, size_of, outputs_of, stage, stages}
use Rattle.totalizer.specs.Stages.{tree_of, tree_within, order_clause, sum_clause}
use Rattle.totalizer.specs.Stages.{sum_clauses}
use Rattle.totalizer.specs.Grown.{IsTreeBelow, AreApart, HasHalvesApart, IsStageClause}
use Rattle.totalizer.proofs.Staging.{stage_takes, right_stage}
use Rattle.cnf.proofs.Laws.{below_more}
use Rattle.totalizer.proofs.Apart.{IsNew, AreDifferent, stage_clause, different_from}
use Rattle.totalizer.proofs.Apart.{different_parts, below_greatest, new_above}
use Rattle.totalizer.proofs.Apart.{apart_left, apart_right, all_got}

pub tree_below_more : (m n : ℕ) (t : Tree) → m ≤ n → IsTreeBelow m t → IsTreeBelow n t
tree_below_more m n (Leaf l) h g = omega arith
tree_below_more m n (Node a b own) h g =
    (tree_below_more m n a h g.0, tree_below_more m n b h g.1, below_more m n own h g.2)

pub outputs_below : (n : ℕ) (t : Tree) → IsTreeBelow n t → AreBelow n (outputs_of t)
outputs_below n (Leaf l) h = (h, tt)
outputs_below n (Node a b own) h = h.2

-- what the variables of a tree are once a stage is made
pub stage_below : (h v : ℕ) (t : Tree) → IsTreeBelow v t
    → IsTreeBelow (stage h v t).fresh (stage h v t).tree
stage_below h v (Leaf l) g = g
stage_below h v (Node a b own) g =
    by (nat_le h (size_of a + size_of b)) refl (stage_below h v a g.0)
    (stage_below h (stage h v a).fresh b
    (tree_below_more v (stage h v a).fresh b (stage_takes h v a).from g.1))
    (stage_takes h v a).from (stage_takes h (stage h v a).fresh b).from
  where
    by : (x : Bool) → nat_le h (size_of a + size_of b) ≡ x
        → IsTreeBelow (stage h v a).fresh (stage h v a).tree
        → IsTreeBelow (right_stage h v a b).fresh (right_stage h v a b).tree
        → v ≤ (stage h v a).fresh → (stage h v a).fresh ≤ (right_stage h v a b).fresh
        → IsTreeBelow (stage h v (Node a b own)).fresh (stage h v (Node a b own)).tree
    by true e left right p q =
        let f = (stage h v a).fresh in
        let r = (right_stage h v a b).fresh in
        rw e (
          tree_below_more f (r + 1) (stage h v a).tree (omega arith) left,
          tree_below_more r (r + 1) (right_stage h v a b).tree (omega arith) right,
          all_append (λ l. l.variable < r + 1) own (positive r ∷ [])
              (below_more v (r + 1) own (omega arith) g.2) (omega arith, tt),
        )
    by false e left right p q = rw e g

-- the outputs after a stage: those before, and maybe a new one
pub record IsGrownBy (v n : ℕ) (before after : List Literal) : Type 0 where
  pub cases : (after ≡ before)
      ⊎ ((x : ℕ) × (v ≤ x) × (x < n) × (after ≡ before ++ positive x ∷ []))

outputs_step : (h v : ℕ) (t : Tree)
    → IsGrownBy v (stage h v t).fresh (outputs_of t) (outputs_of (stage h v t).tree)
outputs_step h v (Leaf l) = record { cases = inl refl }
outputs_step h v (Node a b own) =
    by (nat_le h (size_of a + size_of b)) refl (stage_takes h v a).from
    (stage_takes h (stage h v a).fresh b).from
  where
    by : (x : Bool) → nat_le h (size_of a + size_of b) ≡ x
        → v ≤ (stage h v a).fresh → (stage h v a).fresh ≤ (right_stage h v a b).fresh
        → IsGrownBy v (stage h v (Node a b own)).fresh own
        (outputs_of (stage h v (Node a b own)).tree)
    by true e p q =
        let r = (right_stage h v a b).fresh in
        rw e record { cases = inr (r, omega arith, omega arith, refl) }
    by false e p q = rw e record { cases = inl refl }

-- the halves stay apart
grown_apart : (v f r : ℕ) (c d e g : List Literal) → AreBelow v c → AreBelow v d → AreApart c d
    → IsGrownBy v f c e → IsGrownBy f r d g → v ≤ f → AreApart e g
grown_apart v f r c d e g p q apart left right le =
    elim left.cases [
      | inl same ↦ elim right.cases [
        | inl also ↦ subst (λ x. AreApart x g) (sym same) (subst (AreApart c) (sym also) apart)
        | inr more ↦ subst (λ x. AreApart x g) (sym same)
            (subst (AreApart c) (sym more.3)
            (apart_right c d (positive more.0) apart
            (new_above v (positive more.0) c (omega arith) p)))
      ]
      | inr one ↦
          let wide = apart_left c d (positive one.0) apart
          (new_above v (positive one.0) d (omega arith) q) in
          elim right.cases [
            | inl also ↦ subst (λ x. AreApart x g) (sym one.3)
                (subst (AreApart (c ++ positive one.0 ∷ [])) (sym also) wide)
            | inr more ↦ subst (λ x. AreApart x g) (sym one.3)
                (subst (AreApart (c ++ positive one.0 ∷ [])) (sym more.3)
                (apart_right (c ++ positive one.0 ∷ []) d (positive more.0) wide
                (new_above f (positive more.0) (c ++ positive one.0 ∷ []) more.1
                (all_append (λ l. l.variable < f) c (positive one.0 ∷ [])
                (below_more v f c le p) (one.2, tt)))))
          ]
    ]

pub stage_apart : (h v : ℕ) (t : Tree) → IsTreeBelow v t → HasHalvesApart t
    → HasHalvesApart (stage h v t).tree
stage_apart h v (Leaf l) g apart = tt
stage_apart h v (Node a b own) g apart =
    let f = (stage h v a).fresh in
    let le = (stage_takes h v a).from in
    by (nat_le h (size_of a + size_of b)) refl (stage_apart h v a g.0 apart.0)
    (stage_apart h f b (tree_below_more v f b le g.1) apart.1)
    (grown_apart v f (right_stage h v a b).fresh (outputs_of a) (outputs_of b)
    (outputs_of (stage h v a).tree) (outputs_of (right_stage h v a b).tree) (outputs_below v a g.0)
    (outputs_below v b g.1) apart.2 (outputs_step h v a) (outputs_step h f b) le)
  where
    by : (x : Bool) → nat_le h (size_of a + size_of b) ≡ x → HasHalvesApart (stage h v a).tree
        → HasHalvesApart (right_stage h v a b).tree
        → AreApart (outputs_of (stage h v a).tree) (outputs_of (right_stage h v a b).tree)
        → HasHalvesApart (stage h v (Node a b own)).tree
    by true e left right both = rw e (left, right, both)
    by false e left right both = rw e apart

-- the clauses of a sum
module _ (left right : List Literal) (r n : ℕ) (in_left : AreBelow r left)
    (in_right : AreBelow r right) (apart : AreApart left right) (room : r < n) where
  sum_shape : (i j : ℕ) → 1 ≤ i + j → AllByRecursion (IsStageClause n) (sum_clause left right r i j)
  sum_shape zero zero h = absurd (omega arith)
  sum_shape zero (suc j) h = by (slice_get right j) refl
    where
      by : (o : Option Literal) → slice_get right j ≡ o
          → AllByRecursion (IsStageClause n) (sum_clause left right r 0 (suc j))
      by None e = rw e tt
      by (Some k) e =
          let low : k.variable < r = all_got (λ l. l.variable < r) right j k in_right e in
          rw e (
            stage_clause n (negation k ∷ positive r ∷ []) (omega arith)
                ((λ x. omega arith, tt), (tt, tt)) (omega arith, (room, tt)),
            tt,
          )
  sum_shape (suc i) j h = by (slice_get left i) refl j
    where
      both : (l : Literal) (o : Option Literal) (k : ℕ) → slice_get left i ≡ Some l
          → slice_get right k ≡ o
          → AllByRecursion (IsStageClause n) (sum_clause left right r (suc i) (suc k))
      both l None k e f = rw (e, f) tt
      both l (Some m) k e f =
          let low : l.variable < r = all_got (λ x. x.variable < r) left i l in_left e in
          let also : m.variable < r = all_got (λ x. x.variable < r) right k m in_right f in
          let other : l.variable ≢ m.variable =
          all_got (λ x. l.variable ≢ x.variable) right k m
          (all_got (λ x. AllByRecursion (λ y. x.variable ≢ y.variable) right) left i l apart e) f in
          rw (e, f) (
            stage_clause n (negation l ∷ negation m ∷ positive r ∷ []) (omega arith)
                ((other, (λ x. omega arith, tt)), ((λ x. omega arith, tt), (tt, tt)))
                (omega arith, (omega arith, (room, tt))),
            tt,
          )

      by : (o : Option Literal) → slice_get left i ≡ o → (k : ℕ)
          → AllByRecursion (IsStageClause n) (sum_clause left right r (suc i) k)
      by None e k = rw e tt
      by (Some l) e zero =
          let low : l.variable < r = all_got (λ x. x.variable < r) left i l in_left e in
          rw e (
            stage_clause n (negation l ∷ positive r ∷ []) (omega arith)
                ((λ x. omega arith, tt), (tt, tt)) (omega arith, (room, tt)),
            tt,
          )
      by (Some l) e (suc k) = both l (slice_get right k) k e refl

  sums_shape : (i j : ℕ) → 1 ≤ i + j
      → AllByRecursion (IsStageClause n) (sum_clauses left right r i j)
  sums_shape i zero h = sum_shape i 0 h
  sums_shape i (suc j) h =
      all_append (IsStageClause n) (sum_clause left right r i (suc j))
      (sum_clauses left right r (i + 1) j) (sum_shape i (suc j) h)
      (sums_shape (i + 1) j (omega arith))

order_shape : (own : List Literal) (r n : ℕ) → AreBelow r own → r < n
    → AllByRecursion (IsStageClause n) (order_clause own r)
order_shape own r n below room = by (slice_get own (length own - 1)) refl
  where
    by : (o : Option Literal) → slice_get own (length own - 1) ≡ o
        → AllByRecursion (IsStageClause n) (order_clause own r)
    by None e = rw e tt
    by (Some l) e =
        let low : l.variable < r = all_got (λ x. x.variable < r) own (length own - 1) l below e in
        rw e (
          stage_clause n (negative r ∷ l ∷ []) (omega arith) ((λ x. omega arith, tt), (tt, tt))
              (room, (omega arith, tt)),
          tt,
        )

clause_more : (m n : ℕ) (c : List Literal) → m ≤ n → IsStageClause m c → IsStageClause n c
clause_more m n c le h = record {
  long = h.long;
  once = h.once;
  open_one = h.open_one;
  below = below_more m n c le h.below;
}

clauses_more : (m n : ℕ) (cs : List (List Literal)) → m ≤ n
    → AllByRecursion (IsStageClause m) cs → AllByRecursion (IsStageClause n) cs
clauses_more m n cs le =
    all_weaker (IsStageClause m) (IsStageClause n) cs (λ c. clause_more m n c le)

-- the clauses of a stage, from 1
pub stage_shape : (h v : ℕ) (t : Tree) → 1 ≤ h → IsTreeBelow v t → HasHalvesApart t
    → AllByRecursion (IsStageClause (stage h v t).fresh) (stage h v t).clauses
stage_shape h v (Leaf l) some g apart = tt
stage_shape h v (Node a b own) some g apart =
    let f = (stage h v a).fresh in
    by (nat_le h (size_of a + size_of b)) refl (stage_shape h v a some g.0 apart.0)
    (stage_shape h f b some (tree_below_more v f b (stage_takes h v a).from g.1) apart.1)
  where
    by : (x : Bool) → nat_le h (size_of a + size_of b) ≡ x
        → AllByRecursion (IsStageClause (stage h v a).fresh) (stage h v a).clauses
        → AllByRecursion (IsStageClause (right_stage h v a b).fresh) (right_stage h v a b).clauses
        → AllByRecursion (IsStageClause (stage h v (Node a b own)).fresh)
        (stage h v (Node a b own)).clauses
    by false e shape_left shape_right = rw e tt
    by true e shape_left shape_right =
        let f = (stage h v a).fresh in
        let left = stage h v a in
        let right = right_stage h v a b in
        let r = right.fresh in
        let left_takes = stage_takes h v a in
        let right_takes = stage_takes h f b in
        let b_below = tree_below_more v f b left_takes.from g.1 in
        let in_left =
        below_more f r (outputs_of left.tree) right_takes.from
        (outputs_below f left.tree (stage_below h v a g.0)) in
        let in_right = outputs_below r right.tree (stage_below h f b b_below) in
        let both =
        grown_apart v f r (outputs_of a) (outputs_of b) (outputs_of left.tree)
        (outputs_of right.tree) (outputs_below v a g.0) (outputs_below v b g.1) apart.2
        (outputs_step h v a) (outputs_step h f b) left_takes.from in
        let sums = sum_clauses (outputs_of left.tree) (outputs_of right.tree) r 0 h in
        let P = IsStageClause (r + 1) in
        rw e (all_append P (left.clauses ++ right.clauses ++ sums) (order_clause own r)
        (all_append P (left.clauses ++ right.clauses) sums
        (all_append P left.clauses right.clauses
        (clauses_more f (r + 1) left.clauses (omega arith) shape_left)
        (clauses_more r (r + 1) right.clauses (omega arith) shape_right))
        (sums_shape (outputs_of left.tree) (outputs_of right.tree) r (r + 1) in_left in_right both
        (omega arith) 0 h (omega arith)))
        (order_shape own r (r + 1) (below_more v r own (omega arith) g.2) (omega arith)))

-- before the first stage
outputs_bare : (d : ℕ) (xs : List Literal) → 0 < length xs
    → (outputs_of (tree_within d xs) ≡ [])
    ⊎ ((x : Literal) × (rest : List Literal) × (xs ≡ x ∷ rest)
    × (outputs_of (tree_within d xs) ≡ x ∷ []))
outputs_bare d [] h = absurd (omega arith)
outputs_bare zero (x ∷ xs) h = inr (x, xs, refl, refl)
outputs_bare (suc d) (x ∷ []) h = inr (x, [], refl, refl)
outputs_bare (suc d) (x ∷ y ∷ more) h = inl refl

bare_apart : (d e : ℕ) (xs ys : List Literal) → 0 < length xs → 0 < length ys → AreApart xs ys
    → AreApart (outputs_of (tree_within d xs)) (outputs_of (tree_within e ys))
bare_apart d e xs ys h g apart =
    let right = outputs_of (tree_within e ys) in
    elim (outputs_bare d xs h) [
      | inl none ↦ subst (λ c. AreApart c right) (sym none) tt
      | inr one ↦
          let other = subst (λ c. AreApart c ys) one.2 apart in
          subst (λ c. AreApart c right) (sym one.3) (
            elim (outputs_bare e ys g) [
              | inl none ↦ subst (IsNew one.0) (sym none) tt
              | inr also ↦ subst (IsNew one.0) (sym also.3)
                  (let new = subst (IsNew one.0) also.2 other.0 in (new.0, tt))
            ],
            tt,
          )
    ]

bare_within : (d n : ℕ) (xs : List Literal) → length xs ≤ d → 0 < n → AreBelow n xs
    → AreDifferent xs → IsTreeBelow n (tree_within d xs) × HasHalvesApart (tree_within d xs)
bare_within d n [] few some below different = (some, tt)
bare_within zero n (x ∷ xs) few some below different = absurd (omega arith)
bare_within (suc d) n (x ∷ []) few some below different = (below.0, tt)
bare_within (suc d) n (x ∷ y ∷ more) few some below different =
    let xs = x ∷ y ∷ more in
    let half = length xs / 2 in
    let left = take half xs in
    let right = drop half xs in
    let joined = sym (take-append-drop half xs) in
    let front = length-take half xs in
    let back = length-drop half xs in
    let parts = all_parts (λ l. l.variable < n) left right (subst (AreBelow n) joined below) in
    let apart = different_parts left right (subst AreDifferent joined different) in
    let first = bare_within d n left (omega (arith, front)) some parts.0 apart.0 in
    let second = bare_within d n right (omega (arith, back)) some parts.1 apart.1 in (
      (first.0, second.0, tt),
      (
        first.1,
        second.1,
        bare_apart d d left right (omega (arith, front)) (omega (arith, back)) apart.2,
      ),
    )

-- before the first stage, of literals of different variables below n
module _ (n : ℕ) (xs : List Literal) (once : has_repeat xs ≡ false)
    (open_one : is_tautology xs ≡ false) (below : greatest_variable xs < n) where
  bare : IsTreeBelow n (tree_of xs) × HasHalvesApart (tree_of xs)
  bare =
      bare_within (length xs) n xs (omega arith) (omega arith) (below_greatest n xs below)
      (different_from xs once open_one)

  pub tree_of_below : IsTreeBelow n (tree_of xs)
  tree_of_below = bare.0

  pub tree_of_apart : HasHalvesApart (tree_of xs)
  tree_of_apart = bare.1

-- several stages
pub stages_from : (count h v : ℕ) (t : Tree) → v ≤ (stages count h v t).fresh
stages_from zero h v t = omega arith
stages_from (suc count) h v t =
    let first = stage h v t in
    omega (arith, (stage_takes h v t).from, stages_from count (h + 1) first.fresh first.tree)

pub stages_size : (count h v : ℕ) (t : Tree) → size_of (stages count h v t).tree ≡ size_of t
stages_size zero h v t = refl
stages_size (suc count) h v t =
    let first = stage h v t in
    stages_size count (h + 1) first.fresh first.tree ∙ (stage_takes h v t).same_size

-- fewer variables than leaves for each of them
pub stages_few : (count h v : ℕ) (t : Tree)
    → (stages count h v t).fresh + count ≤ v + count * size_of t
stages_few zero h v t = omega arith
stages_few (suc count) h v t =
    let first = stage h v t in
    let takes = stage_takes h v t in
    omega (
      arith,
      stages_few count (h + 1) first.fresh first.tree,
      ap (λ n. count * n) takes.same_size,
    )

pub stages_below : (count h v : ℕ) (t : Tree) → IsTreeBelow v t
    → IsTreeBelow (stages count h v t).fresh (stages count h v t).tree
stages_below zero h v t g = g
stages_below (suc count) h v t g =
    let first = stage h v t in
    stages_below count (h + 1) first.fresh first.tree (stage_below h v t g)

pub stages_apart : (count h v : ℕ) (t : Tree) → IsTreeBelow v t → HasHalvesApart t
    → HasHalvesApart (stages count h v t).tree
stages_apart zero h v t g apart = apart
stages_apart (suc count) h v t g apart =
    let first = stage h v t in
    stages_apart count (h + 1) first.fresh first.tree (stage_below h v t g)
    (stage_apart h v t g apart)

pub stages_shape : (count h v : ℕ) (t : Tree) → 1 ≤ h → IsTreeBelow v t → HasHalvesApart t
    → AllByRecursion (IsStageClause (stages count h v t).fresh) (stages count h v t).clauses
stages_shape zero h v t some g apart = tt
stages_shape (suc count) h v t some g apart =
    let first = stage h v t in
    let more = stages count (h + 1) first.fresh first.tree in
    all_append (IsStageClause more.fresh) first.clauses more.clauses
    (clauses_more first.fresh more.fresh first.clauses
    (stages_from count (h + 1) first.fresh first.tree) (stage_shape h v t some g apart))
    (stages_shape count (h + 1) first.fresh first.tree (omega arith) (stage_below h v t g)
    (stage_apart h v t g apart))
