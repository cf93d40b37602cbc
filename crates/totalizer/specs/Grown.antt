-- What a tree is after some stages: how many outputs its nodes have, of which variables it is, and
-- what its outputs mean.
use Rattle.std.specs.Prelude.{◌≡◌, ◌≢◌, ℕ, ◌+◌, ◌<◌, ◌≤◌, min, false, List, length, Some}
use Rattle.std.specs.Prelude.{slice_get, nat_le}
use Rattle.std.specs.List.{AllByRecursion}
use Rattle.cnf.specs.Literal.{Literal, Assignment, literal_value}
use Rattle.cnf.specs.Clause.{has_repeat, is_tautology, AreBelow}
use Rattle.totalizer.specs.Stages.{Tree, Leaf, Node, size_of, outputs_of, true_leaves}

-- each node has one output for each of the first h stages, as long as it has the leaves
abbrev pub HasStages : ℕ → Tree → Type 0
HasStages h (Leaf l) = Unit {0}
HasStages h (Node a b outputs) =
    HasStages h a × HasStages h b × (length outputs ≡ min h (size_of a + size_of b))

-- those of the leaves and outputs are
abbrev pub IsTreeBelow : ℕ → Tree → Type 0
IsTreeBelow n (Leaf l) = l.variable < n
IsTreeBelow n (Node a b outputs) = IsTreeBelow n a × IsTreeBelow n b × AreBelow n outputs

-- no variable is that of a literal of both
abbrev pub AreApart : List Literal → List Literal → Type 0
AreApart c d = AllByRecursion (λ k. AllByRecursion (λ l. k.variable ≢ l.variable) d) c

-- the outputs of the halves of each node have different variables
abbrev pub HasHalvesApart : Tree → Type 0
HasHalvesApart (Leaf l) = Unit {0}
HasHalvesApart (Node a b outputs) =
    HasHalvesApart a × HasHalvesApart b × AreApart (outputs_of a) (outputs_of b)

-- a clause that a stage makes, where new variables go on from n
pub record IsStageClause (n : ℕ) (c : List Literal) : Type 0 where
  pub long : 2 ≤ length c
  pub once : has_repeat c ≡ false
  pub open_one : is_tautology c ≡ false
  pub below : AreBelow n c

-- the outputs are the number n in unary, as far as they go: output i, from 1, is true exactly where
-- i is at most n
abbrev pub AreUnary : Assignment → List Literal → ℕ → Type 0
AreUnary t outputs n =
    (i : ℕ) (l : Literal) → slice_get outputs i ≡ Some l → literal_value t l ≡ nat_le (i + 1) n

-- output i of each node, from 1, is true exactly where at least i of its leaves are
abbrev pub MeansRight : Assignment → Tree → Type 0
MeansRight t (Leaf l) = Unit {0}
MeansRight t (Node a b outputs) =
    MeansRight t a × MeansRight t b × AreUnary t outputs (true_leaves t a + true_leaves t b)
