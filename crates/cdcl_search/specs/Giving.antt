-- Clauses that are given later.
use Rattle.std.specs.Prelude.{◌≡◌, ℕ, ◌<◌, ◌≤◌, Bool, true, List, [], ◌∷◌, ◌++◌, length, Some, All}
use Rattle.std.specs.Prelude.{◌-◌, None, slice_get}
use Rattle.cnf.specs.Literal.{Literal}
use Rattle.cnf.specs.Clause.{greatest_variable}
use Rattle.cnf.specs.Lrat.{IsId}
use Rattle.lrat_log.specs.declared.lines.Name.{Name}
use Rattle.lrat_log.specs.Log.{LogLine, Given, number_in, given_at}
use Rattle.cdcl_search.specs.declared.input.Input.{Input}
use Rattle.cdcl_search.specs.declared.search.Search.{Search}
use Rattle.lrat_log.specs.declared.lines.Name.TheVariants.{Formula}
use Rattle.cdcl_search.specs.Running.{Runs}

-- the name is that of a clause of the formula, and none was given under it
abbrev pub IsFreshName : Given → Name → Type 0
IsFreshName given name = (i : ℕ) × (name ≡ Formula i) × (0 < i) × (given_at given i ≡ None)

abbrev pub IsFrozen : List Bool → Literal → Type 0
IsFrozen frozen l = slice_get frozen (l.variable - 1) ≡ Some true

-- what is asked of one
pub record IsGivable (p : Input) (n : Name) (c : List Literal) : Type 0 where
  pub fresh : IsFreshName p.given n
  pub frozen : All (IsFrozen (p.frozen).items) c
  pub id : IsId (number_in n)
  pub from_one : All (λ l. 0 < l.variable) c
  pub small : greatest_variable c ≤ length (p.frozen).items

-- the clauses given, with one more
pub record GivesOne (old new : Input) (n : Name) (c : List Literal) : Type 0 where
  pub given : new.given ≡ old.given ++ (n, c) ∷ []
  pub stack : new.stack ≡ old.stack
  pub frozen : new.frozen ≡ old.frozen
  pub first : new.first ≡ old.first

abbrev pub TakesClause : Search → Search → Name → List Literal → Type 0
TakesClause old new n c = (p q : Input) (ls : List LogLine) → IsGivable p n c → GivesOne p q n c
    → p.first ≤ length p.given → Runs old p ls → Runs new q ls

abbrev pub TakesGiven : Search → Search → Input → Input → Name → List Literal → Type 0
TakesGiven old new p q n c = (ls : List LogLine) → IsGivable p n c
    → p.first ≤ length p.given → Runs old p ls → Runs new q ls
