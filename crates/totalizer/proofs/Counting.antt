-- How many clauses a stage makes.
use Rattle.std.proofs.Common.{◌≡◌, ℕ, zero, suc, ◌+◌, ◌-◌, ◌/◌, ◌<◌, ◌≤◌, min, max, Bool, true}
use Rattle.std.proofs.Common.{false}
use Rattle.std.proofs.Common.{List, ◌∷◌, ◌++◌, length, refl, sym, ◌∙◌, ap, arith, nat_le, take}
use Rattle.std.proofs.Common.{drop, length-append}
use Rattle.std.specs.Prelude.{map}
use Rattle.std.specs.declared.vec.Vec.{Vec}
use Rattle.std.specs.declared.alloc.Global.{Global}
use Rattle.std.proofs.lemmas.Bool.{leb-true, leb-false}
use Rattle.std.proofs.lemmas.Option.{slice_get-get_or}
use Rattle.cnf.specs.Literal.{Literal, positive}
use Rattle.totalizer.specs.Stages.{Tree, Node, size_of, outputs_of, stage, sum_clause}
use Rattle.totalizer.specs.Stages.{sum_clauses, order_clause}
use Rattle.totalizer.specs.Laid.{tree_at, laid_tree}
use Rattle.totalizer.proofs.Laid.{laid_node, laid_size}
use Rattle.totalizer.proofs.Staging.{joined, stage_node, stage_small, outputs_grow}
use Rattle.totalizer.proofs.Sums.{sums_left, sums_step, past_left, past_right}

-- the place that no read comes to
abbrev none : Literal
none = positive 0

module _ (left right : List Literal) (v : ℕ) where
  one_sum : (i j : ℕ) → i ≤ length left → j ≤ length right
      → length (sum_clause left right v i j) ≡ 1
  one_sum zero zero h g = refl
  one_sum zero (suc j) h g = rw (slice_get-get_or right j none (omega arith)) refl
  one_sum (suc i) zero h g = rw (slice_get-get_or left i none (omega arith)) refl
  one_sum (suc i) (suc j) h g =
      rw (
        slice_get-get_or left i none (omega arith),
        slice_get-get_or right j none (omega arith),
      ) refl

  sums_count : (n i h : ℕ) → i + n ≡ h + 1
      → length (sums_left left right v i n)
      ≡ min (length left) h + 1 - max i (h - length right)
  sums_count zero i h e = omega arith
  sums_count (suc n) i h e =
      let rest = sums_count n (i + 1) h (omega arith) in
      let both =
      ap length (sums_step left right v i n)
      ∙ length-append (sum_clause left right v i n) (sums_left left right v (i + 1) n) in
      by (nat_le i (length left)) (nat_le n (length right)) refl refl rest both
    where
      by : (a b : Bool) → nat_le i (length left) ≡ a → nat_le n (length right) ≡ b
          → length (sums_left left right v (i + 1) n)
          ≡ min (length left) h + 1 - max (i + 1) (h - length right)
          → length (sums_left left right v i (suc n))
          ≡ length (sum_clause left right v i n) + length (sums_left left right v (i + 1) n)
          → length (sums_left left right v i (suc n))
          ≡ min (length left) h + 1 - max i (h - length right)
      by true true p q rest both =
          let few = leb-true i (length left) p in
          let also = leb-true n (length right) q in
          omega (arith, one_sum i n few also)
      by false b p q rest both =
          let far = leb-false i (length left) p in
          omega (arith, ap length (past_left left right v i n far))
      by true false p q rest both =
          let far = leb-false n (length right) q in
          omega (arith, ap length (past_right left right v i n far))

  -- all clauses of a sum
  pub all_sums : (h : ℕ) → length (sum_clauses left right v 0 h)
      ≡ min (length left) h + 1 - (h - length right)
  all_sums h = omega (arith, sums_count (suc h) 0 h (omega arith))

pub order_one : (own : List Literal) (r : ℕ) → 0 < length own → length (order_clause own r) ≡ 1
order_one own r h = rw (slice_get-get_or own (length own - 1) none (omega arith)) refl

-- the clauses of a node, from those of its halves
pub joined_count : (h : ℕ) (own : List Literal) (left right : List (List Literal)) (a b : Tree)
    (r : ℕ) → length (joined h own left right a b r).clauses
    ≡ length left + length right
    + (min (length (outputs_of a)) h + 1 - (h - length (outputs_of b)))
    + length (order_clause own r)
joined_count h own left right a b r =
    let sums = sum_clauses (outputs_of a) (outputs_of b) r 0 h in
    omega (
      arith,
      length-append (left ++ right ++ sums) (order_clause own r),
      length-append (left ++ right) sums,
      length-append left right,
      all_sums (outputs_of a) (outputs_of b) r h,
    )

-- how many outputs a node in memory has after a stage
module _ (h v : ℕ) (xs : List Literal) (own : Vec Literal Global)
    (below : List (Vec Literal Global)) (long : 1 < length xs) where
  abbrev outputs : List (List Literal)
  outputs = map (λ o. o.items) below

  abbrev half : ℕ
  half = length xs / 2

  abbrev a : Tree
  a = laid_tree (take half xs) (take (half - 1) outputs)

  abbrev b : Tree
  b = laid_tree (drop half xs) (drop (half - 1) outputs)

  node : tree_at xs (own ∷ below) ≡ Node a b own.items
  node = laid_node xs own.items outputs long

  size : size_of a + size_of b ≡ length xs
  size = ap size_of (sym node) ∙ laid_size xs (own.items ∷ outputs) (omega arith)

  pub outputs_grown : h ≤ length xs
      → length own.items + 1 ≡ length (outputs_of (stage h v (tree_at xs (own ∷ below))).tree)
  outputs_grown g =
      sym (outputs_grow h v a b own.items (omega (arith, size)))
      ∙ ap (λ t. length (outputs_of (stage h v t).tree)) (sym node)

  pub outputs_kept : length xs < h
      → length own.items ≡ length (outputs_of (stage h v (tree_at xs (own ∷ below))).tree)
  outputs_kept g =
      ap (λ s. length (outputs_of s.tree))
      (sym (stage_small h v (Node a b own.items) (omega (arith, size))))
      ∙ ap (λ t. length (outputs_of (stage h v t).tree)) (sym node)

-- the clauses of a node that has as many leaves, from what its halves have
pub count_node : (h v la lb oa ob s o : ℕ) (a b : Tree) (own : List Literal)
    → h ≤ size_of a + size_of b
    → ((w : ℕ) → la ≡ length (stage h w a).clauses)
    → ((w : ℕ) → lb ≡ length (stage h w b).clauses)
    → ((w : ℕ) → oa ≡ length (outputs_of (stage h w a).tree))
    → ((w : ℕ) → ob ≡ length (outputs_of (stage h w b).tree))
    → s ≡ min oa h + 1 - (h - ob) → ((r : ℕ) → o ≡ length (order_clause own r))
    → la + lb + s + o ≡ length (stage h v (Node a b own)).clauses
count_node h v la lb oa ob s o a b own g p q x y e z =
    let f = (stage h v a).fresh in
    let r = (stage h f b).fresh in
    let left = stage h v a in
    let right = stage h f b in
    let sums : s
    ≡ min (length (outputs_of left.tree)) h + 1 - (h - length (outputs_of right.tree)) =
    e ∙ (λ i. min (x v i) h + 1 - (h - y f i)) in
    sym (ap (λ k. length k.clauses) (stage_node h v a b own g)
    ∙ joined_count h own left.clauses right.clauses left.tree right.tree r
    ∙ sym (λ i. p v i + q f i + sums i + z r i))
