-- Outputs that are a number in unary.
use Rattle.std.proofs.Common.{◌≡◌, ℕ, zero, suc, ◌+◌, Bool, true, false}
use Rattle.std.proofs.Common.{List, [], ◌∷◌, ◌++◌, length, refl, sym, ◌∙◌, ap, arith, nat_le}
use Rattle.std.proofs.Common.{inl, inr, ◌⊎◌}
use Rattle.std.specs.Prelude.{Some, slice_get, if◌then◌else◌}
use Rattle.cnf.specs.Literal.{Literal, Assignment, literal_value}
use Rattle.totalizer.specs.Stages.{Tree, Leaf, Node, outputs_of, true_leaves}
use Rattle.totalizer.specs.Grown.{AreUnary, MeansRight}

-- places of a list that another one follows
get_front : (xs ys : List Literal) (i : ℕ) (l : Literal) → slice_get xs i ≡ Some l
    → slice_get (xs ++ ys) i ≡ Some l
get_front [] ys i l e = absurd (cc)
get_front (x ∷ xs) ys zero l e = e
get_front (x ∷ xs) ys (suc i) l e = get_front xs ys i l e

get_last : (xs : List Literal) (x : Literal) → slice_get (xs ++ x ∷ []) (length xs) ≡ Some x
get_last [] x = refl
get_last (y ∷ xs) x = get_last xs x

pushed_get : (xs : List Literal) (x : Literal) (i : ℕ) (l : Literal)
    → slice_get (xs ++ x ∷ []) i ≡ Some l
    → (slice_get xs i ≡ Some l) ⊎ ((length xs ≡ i) × (l ≡ x))
pushed_get [] x zero l e = inr (refl, cc)
pushed_get [] x (suc i) l e = absurd (cc)
pushed_get (y ∷ xs) x zero l e = inl e
pushed_get (y ∷ xs) x (suc i) l e =
    elim (pushed_get xs x i l e) [
      | inl old ↦ inl old
      | inr new ↦ inr (omega (arith, new.0), new.1)
    ]

-- a leaf is the number of true leaves in unary
leaf_unary : (t : Assignment) (l : Literal)
    → AreUnary t (l ∷ []) (if literal_value t l then 1 else 0)
leaf_unary t l zero k e = by (literal_value t l) refl
  where
    by : (b : Bool) → literal_value t l ≡ b
        → literal_value t k ≡ nat_le 1 (if literal_value t l then 1 else 0)
    by true g =
        let same : l ≡ k = cc in
        ap (literal_value t) (sym same) ∙ rw g refl
    by false g =
        let same : l ≡ k = cc in
        ap (literal_value t) (sym same) ∙ rw g refl
leaf_unary t l (suc i) k e = absurd (cc)

-- the outputs of a tree, its own literal of a leaf
pub outputs_unary : (t : Assignment) (tree : Tree) → MeansRight t tree
    → AreUnary t (outputs_of tree) (true_leaves t tree)
outputs_unary t (Leaf l) means = leaf_unary t l
outputs_unary t (Node a b own) means = means.2

-- the outputs of a node, and one more
pub unary_push : (t : Assignment) (xs : List Literal) (x : Literal) (n : ℕ) → AreUnary t xs n
    → literal_value t x ≡ nat_le (length xs + 1) n → AreUnary t (xs ++ x ∷ []) n
unary_push t xs x n unary last i l e =
    elim (pushed_get xs x i l e) [
      | inl old ↦ unary i l old
      | inr new ↦ ap (literal_value t) new.1 ∙ last
          ∙ ap (λ k. nat_le (k + 1) n) new.0
    ]

-- the outputs of a node before its last one
pub unary_front : (t : Assignment) (xs : List Literal) (x : Literal) (n : ℕ)
    → AreUnary t (xs ++ x ∷ []) n → AreUnary t xs n
unary_front t xs x n unary i l e = unary i l (get_front xs (x ∷ []) i l e)

pub unary_last : (t : Assignment) (xs : List Literal) (x : Literal) (n : ℕ)
    → AreUnary t (xs ++ x ∷ []) n → literal_value t x ≡ nat_le (length xs + 1) n
unary_last t xs x n unary = unary (length xs) x (get_last xs x)
