-- What a stage makes of a leaf, of a node that is too small for it, and of other nodes.
use Rattle.std.proofs.Common.{◌≡◌, ℕ, ◌+◌, ◌<◌, ◌≤◌, Bool, true, false, List, [], ◌∷◌}
use Rattle.std.proofs.Common.{◌++◌, refl, sym, ◌∙◌, ap, arith, nat_le, append_assoc, length}
use Rattle.std.proofs.Common.{length-append}
use Rattle.std.proofs.lemmas.Bool.{le-leb, lt-leb}
use Rattle.cnf.specs.Literal.{Literal, positive}
use Rattle.totalizer.specs.Stages.{Tree, Leaf, Node, size_of, outputs_of, Staged, stage}
use Rattle.totalizer.specs.Stages.{sum_clauses, order_clause}

-- nothing is made
abbrev pub unstaged : ℕ → Tree → Staged
unstaged v t = record { tree = t; clauses = []; fresh = v }

-- a node of halves that the stage was made of, with the clauses of these
abbrev pub joined : ℕ → List Literal → List (List Literal) → List (List Literal) → Tree → Tree → ℕ
    → Staged
joined h own left right a b r = record {
  tree = Node a b (own ++ positive r ∷ []);
  clauses =
      left ++ right ++ sum_clauses (outputs_of a) (outputs_of b) r 0 h ++ order_clause own r;
  fresh = r + 1;
}

-- the stage of a right half, after that of the left one
abbrev pub right_stage : ℕ → ℕ → Tree → Tree → Staged
right_stage h v a b = stage h (stage h v a).fresh b

pub size_positive : (t : Tree) → 0 < size_of t
size_positive (Leaf l) = omega arith
size_positive (Node a b own) = omega (arith, size_positive a)

-- a node that has as many leaves
pub stage_node : (h v : ℕ) (a b : Tree) (own : List Literal) → h ≤ size_of a + size_of b
    → stage h v (Node a b own)
    ≡ joined h own (stage h v a).clauses (right_stage h v a b).clauses (stage h v a).tree
    (right_stage h v a b).tree (right_stage h v a b).fresh
stage_node h v a b own g = rw (le-leb h (size_of a + size_of b) g) refl

-- a tree that has fewer leaves stays as it is
pub stage_small : (h v : ℕ) (t : Tree) → size_of t < h → stage h v t ≡ unstaged v t
stage_small h v (Leaf l) g = refl
stage_small h v (Node a b own) g = rw (lt-leb h (size_of a + size_of b) g) refl

-- new variables are taken, and fewer than there are leaves
pub record TakesFresh (v : ℕ) (t : Tree) (s : Staged) : Type 0 where
  pub from : v ≤ s.fresh
  pub few : s.fresh + 1 ≤ v + size_of t
  pub same_size : size_of s.tree ≡ size_of t

pub stage_takes : (h v : ℕ) (t : Tree) → TakesFresh v t (stage h v t)
stage_takes h v (Leaf l) = record { from = omega arith; few = omega arith; same_size = refl }
stage_takes h v (Node a b own) =
    by (nat_le h (size_of a + size_of b)) refl (stage_takes h v a)
    (stage_takes h (stage h v a).fresh b)
  where
    by : (x : Bool) → nat_le h (size_of a + size_of b) ≡ x → TakesFresh v a (stage h v a)
        → TakesFresh (stage h v a).fresh b (right_stage h v a b)
        → TakesFresh v (Node a b own) (stage h v (Node a b own))
    by true e left right = rw e record {
      from = omega arith;
      few = omega arith;
      same_size = omega arith;
    }
    by false e left right =
        let some = size_positive a in
        rw e record { from = omega arith; few = omega arith; same_size = refl }

-- such a node gets one output more
pub outputs_grow : (h v : ℕ) (a b : Tree) (own : List Literal) → h ≤ size_of a + size_of b
    → length (outputs_of (stage h v (Node a b own)).tree) ≡ length own + 1
outputs_grow h v a b own g =
    ap (λ s. length (outputs_of s.tree)) (stage_node h v a b own g)
    ∙ length-append own (positive (right_stage h v a b).fresh ∷ [])

-- a stage that was made of the halves, as memory has it
module _ (h v f r : ℕ) (a b na nb : Tree) (own : List Literal) (many : h ≤ size_of a + size_of b)
    (left : na ≡ (stage h v a).tree) (middle : f ≡ (stage h v a).fresh)
    (right : nb ≡ (stage h f b).tree) (last : r ≡ (stage h f b).fresh) where
  pub made : stage h v (Node a b own)
      ≡ joined h own (stage h v a).clauses (stage h f b).clauses na nb r
  made =
      stage_node h v a b own many
      ∙ (λ i. joined h own (stage h v a).clauses (stage h (sym middle i) b).clauses (sym left i)
      (stage h (sym middle i) b).tree (stage h (sym middle i) b).fresh)
      ∙ (λ i. joined h own (stage h v a).clauses (stage h f b).clauses na (sym right i)
      (sym last i))

  -- the clauses, in the order in which they come
  pub clauses_made : (c₀ c₁ c₂ c₃ c₄ : List (List Literal)) → c₁ ≡ c₀ ++ (stage h v a).clauses
      → c₂ ≡ c₁ ++ (stage h f b).clauses
      → c₃ ≡ c₂ ++ sum_clauses (outputs_of na) (outputs_of nb) r 0 h → c₄ ≡ c₃ ++ order_clause own r
      → c₄ ≡ c₀ ++ (stage h v (Node a b own)).clauses
  clauses_made c₀ c₁ c₂ c₃ c₄ p q s t =
      let x = (stage h v a).clauses in
      let y = (stage h f b).clauses in
      let z = sum_clauses (outputs_of na) (outputs_of nb) r 0 h in
      let w = order_clause own r in
      t ∙ ap (λ c. c ++ w) (s ∙ ap (λ c. c ++ z) (q ∙ ap (λ c. c ++ y) p))
      ∙ ap (λ c. c ++ z ++ w) (append_assoc c₀ x y) ∙ ap (λ c. c ++ w) (append_assoc c₀ (x ++ y) z)
      ∙ append_assoc c₀ (x ++ y ++ z) w ∙ ap (λ s. c₀ ++ s.clauses) (sym made)
