-- Totalizers that grow by stages (Bailleux and Boufkhad 2003): a tree over literals by halves, in
-- which the h-th variable of a node is true where at least h of the leaves below it are. Stage h
-- makes the h-th variable of each node that has as many leaves.
use Rattle.std.specs.Prelude.{ℕ, zero, suc, ◌+◌, ◌-◌, ◌/◌, List, [], ◌∷◌, ◌++◌, length}
use Rattle.std.specs.Prelude.{take, drop, Option, Some, None, slice_get, nat_le, if◌then◌else◌}
use Rattle.cnf.specs.Literal.{Literal, Assignment, positive, negative, negation, literal_value}

pub data Tree : Type 0 where
  Leaf : (literal : Literal) → Tree
  -- the outputs are the literals of the node's variables, that of stage 1 first
  Node : (left right : Tree) (outputs : List Literal) → Tree

-- how many leaves it has
abbrev pub size_of : Tree → ℕ
size_of (Leaf l) = 1
size_of (Node a b outputs) = size_of a + size_of b

-- the literals that are true where at least 1, 2, .. of the leaves are, as far as stages made them
abbrev pub outputs_of : Tree → List Literal
outputs_of (Leaf l) = l ∷ []
outputs_of (Node a b outputs) = outputs

-- the tree of these literals by halves, of which the left one is the shorter, at most so deep
abbrev pub tree_within : ℕ → List Literal → Tree
tree_within depth [] = Leaf (positive 0)
tree_within zero (x ∷ xs) = Leaf x
tree_within (suc depth) (x ∷ []) = Leaf x
tree_within (suc depth) (x ∷ y ∷ more) =
    let half = length (x ∷ y ∷ more) / 2 in
    Node (tree_within depth (take half (x ∷ y ∷ more)))
    (tree_within depth (drop half (x ∷ y ∷ more))) []

-- before the first stage; there is a literal
abbrev pub tree_of : List Literal → Tree
tree_of xs = tree_within (length xs) xs

-- the literals that are false where fewer than i of the leaves are true: none where i is 0, and
-- nothing where no stage has made it
abbrev pub unless_at_least : List Literal → ℕ → Option (List Literal)
unless_at_least outputs zero = Some []
unless_at_least outputs (suc i) = by (slice_get outputs i)
  where
    by : Option Literal → Option (List Literal)
    by None = None
    by (Some l) = Some (negation l ∷ [])

-- i leaves on the left and j on the right are i + j together, as v says
abbrev pub sum_clause : List Literal → List Literal → ℕ → ℕ → ℕ → List (List Literal)
sum_clause left right v i j = by (unless_at_least left i) (unless_at_least right j)
  where
    by : Option (List Literal) → Option (List Literal) → List (List Literal)
    by None q = []
    by (Some p) None = []
    by (Some p) (Some q) = (p ++ q ++ positive v ∷ []) ∷ []

-- for i, i + 1, .. on the left, with j, j - 1, .., 0 on the right
abbrev pub sum_clauses : List Literal → List Literal → ℕ → ℕ → ℕ → List (List Literal)
sum_clauses left right v i zero = sum_clause left right v i 0
sum_clauses left right v i (suc j) =
    sum_clause left right v i (suc j) ++ sum_clauses left right v (i + 1) j

-- v holds only where the last of the outputs so far does
abbrev pub order_clause : List Literal → ℕ → List (List Literal)
order_clause outputs v = by (slice_get outputs (length outputs - 1))
  where
    by : Option Literal → List (List Literal)
    by None = []
    by (Some l) = (negative v ∷ l ∷ []) ∷ []

-- a tree, the clauses that its stages made, and the next new variable
pub record Staged : Type 0 where
  pub tree : Tree
  pub clauses : List (List Literal)
  pub fresh : ℕ

-- stage h: left half, right half, and then the node, where it has at least h leaves; new variables
-- from v on
abbrev pub stage : ℕ → ℕ → Tree → Staged
stage h v (Leaf l) = record { tree = Leaf l; clauses = []; fresh = v }
stage h v (Node a b outputs) =
    let left = stage h v a in
    let right = stage h left.fresh b in
    let r = right.fresh in
    if nat_le h (size_of a + size_of b) then
    record {
      tree = Node left.tree right.tree (outputs ++ positive r ∷ []);
      clauses = left.clauses ++ right.clauses
          ++ sum_clauses (outputs_of left.tree) (outputs_of right.tree) r 0 h
          ++ order_clause outputs r;
      fresh = r + 1;
    } else record { tree = Node a b outputs; clauses = []; fresh = v }

-- the stages h, h + 1, .., `count` of them
abbrev pub stages : ℕ → ℕ → ℕ → Tree → Staged
stages zero h v t = record { tree = t; clauses = []; fresh = v }
stages (suc count) h v t =
    let first = stage h v t in
    let more = stages count (h + 1) first.fresh first.tree in
    record {
      tree = more.tree;
      clauses = first.clauses ++ more.clauses;
      fresh = more.fresh;
    }

-- a totalizer of these literals with `count` outputs; new variables from v on
abbrev pub totalizer_of : ℕ → ℕ → List Literal → Staged
totalizer_of count v xs = stages count 1 v (tree_of xs)

-- how many of the leaves are true
abbrev pub true_leaves : Assignment → Tree → ℕ
true_leaves t (Leaf l) = if literal_value t l then 1 else 0
true_leaves t (Node a b outputs) = true_leaves t a + true_leaves t b
