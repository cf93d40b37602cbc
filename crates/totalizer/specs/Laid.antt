-- A totalizer in flat memory: its inputs, and the outputs of each inner node. A node comes before
-- those of its left half, and these before those of its right half.
use Rattle.std.specs.Prelude.{◌≡◌, ℕ, zero, suc, ◌+◌, ◌-◌, ◌/◌, List, [], ◌∷◌, length, take, drop}
use Rattle.std.specs.Prelude.{slice_index_or, map}
use Rattle.std.specs.declared.vec.Vec.{Vec}
use Rattle.std.specs.declared.alloc.Global.{Global}
use Rattle.cnf.specs.Literal.{Literal, positive}
use Rattle.totalizer.specs.Stages.{Tree, Leaf, Node}

-- the tree of these inputs and outputs, at most so deep
abbrev pub laid_within : ℕ → List Literal → List (List Literal) → Tree
laid_within depth [] outputs = Leaf (positive 0)
laid_within zero (x ∷ xs) outputs = Leaf x
laid_within (suc depth) (x ∷ []) outputs = Leaf x
laid_within (suc depth) (x ∷ y ∷ more) outputs =
    let half = length (x ∷ y ∷ more) / 2 in
    let below = drop 1 outputs in
    Node (laid_within depth (take half (x ∷ y ∷ more)) (take (half - 1) below))
    (laid_within depth (drop half (x ∷ y ∷ more)) (drop (half - 1) below))
    (slice_index_or outputs 0 [])

-- the tree of all of them
abbrev pub laid_tree : List Literal → List (List Literal) → Tree
laid_tree inputs outputs = laid_within (length inputs) inputs outputs

-- the tree of the inputs and outputs in memory
abbrev pub tree_at : List Literal → List (Vec Literal Global) → Tree
tree_at inputs outputs = laid_tree inputs (map (λ o. o.items) outputs)

-- there is an input, and a list of outputs for each inner node
abbrev pub IsLaid : List Literal → List (Vec Literal Global) → Type 0
IsLaid inputs outputs = length outputs + 1 ≡ length inputs
