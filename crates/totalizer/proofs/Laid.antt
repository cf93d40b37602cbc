-- Trees in flat memory: more depth changes nothing, and a node is made of its halves.
use Rattle.std.proofs.Common.{◌≡◌, ℕ, zero, suc, ◌+◌, ◌-◌, ◌/◌, ◌<◌, ◌≤◌, List, [], ◌∷◌, ◌++◌}
use Rattle.std.proofs.Common.{length, take, drop, refl, ◌∙◌, ap, arith}
use Rattle.std.specs.Prelude.{All, slice_index_or, map}
use Rattle.std.specs.declared.vec.Vec.{Vec}
use Rattle.std.specs.declared.alloc.Global.{Global}
use Rattle.std.proofs.lemmas.List.{length-take, length-drop, length-map, map-append, take_at}
use Rattle.std.proofs.lemmas.List.{drop_at}
use Rattle.std.proofs.lemmas.List.Elements.{All-take, All-drop, All-map}
use Rattle.cnf.specs.Literal.{Literal}
use Rattle.totalizer.specs.Stages.{Node, size_of, tree_within, tree_of}
use Rattle.totalizer.specs.Laid.{laid_within, laid_tree, tree_at}

-- more depth than the number of inputs changes nothing
deeper : (d e : ℕ) (xs : List Literal) (outputs : List (List Literal)) → length xs ≤ d
    → length xs ≤ e → laid_within d xs outputs ≡ laid_within e xs outputs
deeper d e [] outputs h g = refl
deeper zero e (x ∷ xs) outputs h g = absurd (omega arith)
deeper (suc d) zero (x ∷ xs) outputs h g = absurd (omega arith)
deeper (suc d) (suc e) (x ∷ []) outputs h g = refl
deeper (suc d) (suc e) (x ∷ y ∷ more) outputs h g =
    let xs = x ∷ y ∷ more in
    let half = length xs / 2 in
    let below = drop 1 outputs in
    let front = length-take half xs in
    let back = length-drop half xs in
    (λ i. Node
    (deeper d e (take half xs) (take (half - 1) below) (omega (arith, front))
    (omega (arith, front)) i)
    (deeper d e (drop half xs) (drop (half - 1) below) (omega (arith, back)) (omega (arith, back))
    i)
    (slice_index_or outputs 0 []))

-- a node, from its own outputs and those of its halves
pub laid_node : (xs : List Literal) (own : List Literal) (below : List (List Literal))
    → 1 < length xs → laid_tree xs (own ∷ below)
    ≡ Node (laid_tree (take (length xs / 2) xs) (take (length xs / 2 - 1) below))
    (laid_tree (drop (length xs / 2) xs) (drop (length xs / 2 - 1) below)) own
laid_node [] own below h = absurd (omega arith)
laid_node (x ∷ []) own below h = absurd (omega arith)
laid_node (x ∷ y ∷ more) own below h =
    let xs = x ∷ y ∷ more in
    let half = length xs / 2 in
    let d = length (y ∷ more) in
    let front = length-take half xs in
    let back = length-drop half xs in
    λ i. Node
    (deeper d (length (take half xs)) (take half xs) (take (half - 1) below) (omega (arith, front))
    (omega arith) i)
    (deeper d (length (drop half xs)) (drop half xs) (drop (half - 1) below) (omega (arith, back))
    (omega arith) i) own

size_within : (d : ℕ) (xs : List Literal) (outputs : List (List Literal)) → 0 < length xs
    → length xs ≤ d → size_of (laid_within d xs outputs) ≡ length xs
size_within d [] outputs h g = absurd (omega arith)
size_within zero (x ∷ xs) outputs h g = absurd (omega arith)
size_within (suc d) (x ∷ []) outputs h g = refl
size_within (suc d) (x ∷ y ∷ more) outputs h g =
    let xs = x ∷ y ∷ more in
    let half = length xs / 2 in
    let below = drop 1 outputs in
    let front = length-take half xs in
    let back = length-drop half xs in
    omega (
      arith,
      front,
      back,
      size_within d (take half xs) (take (half - 1) below) (omega (arith, front))
          (omega (arith, front)),
      size_within d (drop half xs) (drop (half - 1) below) (omega (arith, back))
          (omega (arith, back)),
    )

-- its inputs are its leaves
pub laid_size : (xs : List Literal) (outputs : List (List Literal)) → 0 < length xs
    → size_of (laid_tree xs outputs) ≡ length xs
laid_size xs outputs h = size_within (length xs) xs outputs h (omega arith)

abbrev IsEmpty : List Literal → Type 0
IsEmpty o = o ≡ []

first_empty : (outputs : List (List Literal)) → All IsEmpty outputs
    → slice_index_or outputs 0 [] ≡ []
first_empty [] h = refl
first_empty (o ∷ outputs) h = h zero [] (omega arith)

bare_within : (d : ℕ) (xs : List Literal) (outputs : List (List Literal)) → All IsEmpty outputs
    → laid_within d xs outputs ≡ tree_within d xs
bare_within d [] outputs h = refl
bare_within zero (x ∷ xs) outputs h = refl
bare_within (suc d) (x ∷ []) outputs h = refl
bare_within (suc d) (x ∷ y ∷ more) outputs h =
    let xs = x ∷ y ∷ more in
    let half = length xs / 2 in
    let below = drop 1 outputs in
    let rest = All-drop IsEmpty 1 outputs h in
    λ i. Node
    (bare_within d (take half xs) (take (half - 1) below) (All-take IsEmpty (half - 1) below rest)
    i)
    (bare_within d (drop half xs) (drop (half - 1) below) (All-drop IsEmpty (half - 1) below rest)
    i)
    (first_empty outputs h i)

-- before the first stage there are no outputs
laid_bare : (xs : List Literal) (outputs : List (List Literal)) → All IsEmpty outputs
    → laid_tree xs outputs ≡ tree_of xs
laid_bare xs outputs h = bare_within (length xs) xs outputs h

-- a node that no stage has made an output of
abbrev pub HasNone : Vec Literal Global → Type 0
HasNone o = o.items ≡ []

-- before the first stage there are no outputs
pub tree_bare : (xs : List Literal) (os : List (Vec Literal Global)) → All HasNone os
    → tree_at xs os ≡ tree_of xs
tree_bare xs os h = laid_bare xs (map (λ o. o.items) os) (All-map IsEmpty (λ o. o.items) os h)

-- a node, where the outputs of its halves stand one after the other
pub laid_halves : (xs : List Literal) (own : List Literal) (lo ro : List (List Literal))
    → 1 < length xs → length lo + 1 ≡ length xs / 2
    → laid_tree xs (own ∷ (lo ++ ro))
    ≡ Node (laid_tree (take (length xs / 2) xs) lo) (laid_tree (drop (length xs / 2) xs) ro) own
laid_halves xs own lo ro h e =
    let n = length xs / 2 - 1 in
    let long : length lo ≡ n = omega arith in
    laid_node xs own (lo ++ ro) h
    ∙ (λ i. Node (laid_tree (take (length xs / 2) xs) (take_at lo ro n long i))
    (laid_tree (drop (length xs / 2) xs) (drop_at lo ro n long i)) own)

-- the same in memory
pub tree_halves : (xs : List Literal) (own : Vec Literal Global) (lo ro : List (Vec Literal Global))
    → 1 < length xs → length lo + 1 ≡ length xs / 2
    → tree_at xs (own ∷ (lo ++ ro))
    ≡ Node (tree_at (take (length xs / 2) xs) lo) (tree_at (drop (length xs / 2) xs) ro) own.items
tree_halves xs own lo ro h e =
    let items : Vec Literal Global → List Literal = λ o. o.items in
    ap (λ below. laid_tree xs (own.items ∷ below)) (map-append items lo ro)
    ∙ laid_halves xs own.items (map items lo) (map items ro) h
    (omega (arith, length-map lo items))
