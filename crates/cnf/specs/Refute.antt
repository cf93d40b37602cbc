-- Unit and false clauses, and refutations by hints.
use Rattle.std.specs.Prelude.{◌≡◌, ℕ, true, false, List, [], ◌∷◌, ◌++◌, Option, Some, ◌⊎◌}
use Rattle.std.specs.List.{AllByRecursion}
use Rattle.cnf.specs.Literal.{Literal, negation}
use Rattle.cnf.specs.Clause.{contains_literal}
use Rattle.cnf.specs.Formula.{numbered}

-- with the literals of A true, all literals of c but l are false, and l is open
pub record IsUnit (c : List Literal) (A : List Literal) (l : Literal) : Type 0 where
  pub member : contains_literal l c ≡ true
  pub not_true : contains_literal l A ≡ false
  pub not_false : contains_literal (negation l) A ≡ false
  pub others : AllByRecursion (λ k. (k ≡ l) ⊎ (contains_literal (negation k) A ≡ true)) c

abbrev pub IsFalseUnder : List Literal → List Literal → Type 0
IsFalseUnder c A = AllByRecursion (λ l. contains_literal (negation l) A ≡ true) c

abbrev pub Clauses : Type 0
Clauses = ℕ → Option (List Literal)

-- by hints that are live and unit in turn, each of which makes its literal true, A becomes B
abbrev pub Leads : Clauses → List Literal → List ℕ → List Literal → Type 0
Leads at A [] B = B ≡ A
Leads at A (h ∷ hs) B =
    (c : List Literal) × (l : Literal) × (at h ≡ Some c) × IsUnit c A l × Leads at (l ∷ A) hs B

pub record Refutes (at : Clauses) (A : List Literal) (hints : List ℕ) : Type 0 where
  pub front : List ℕ
  pub final : ℕ
  pub split : hints ≡ front ++ final ∷ []
  pub reached : List Literal
  pub leads : Leads at A front reached
  pub clause : List Literal
  pub live : at final ≡ Some clause
  pub conflict : IsFalseUnder clause reached

-- some hints refute the empty set over these clauses
abbrev pub IsRefutedByHints : List (List Literal) → Type 0
IsRefutedByHints cs = (hints : List ℕ) × Refutes (numbered cs) [] hints
