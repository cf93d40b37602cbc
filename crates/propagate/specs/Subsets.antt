-- Clauses that have no literals but those of another, or but those that are marked.
use Rattle.std.specs.Prelude.{◌≡◌, ℕ, Bool, true, false, List, Some}
use Rattle.std.specs.List.{AllByRecursion}
use Rattle.cnf.specs.Literal.{Literal}
use Rattle.cnf.specs.Clause.{is_subset}
use Rattle.cnf.specs.Marks.{are_marked}
use Rattle.clauses.specs.Slots.{Slots, clause_at}
use Rattle.propagate_watches.specs.declared.pool.WatchEntry.{WatchEntry}
use Rattle.propagate.specs.Watches.{EngineState, is_attached}

-- a live clause of the store has no literals but those of c
pub record HasSubset (slots : Slots) (c : List Literal) : Type 0 where
  pub reference : ℕ
  pub clause : List Literal
  pub live : clause_at slots reference ≡ Some clause
  pub within : is_subset clause c ≡ true

-- all literals of an attached clause are marked
pub record HasMarked (e : EngineState) (slots : Slots) (marks : List Bool) : Type 0 where
  pub reference : ℕ
  pub clause : List Literal
  pub attached : is_attached e reference ≡ true
  pub live : clause_at slots reference ≡ Some clause
  pub marked : are_marked marks clause ≡ true

-- not all literals of the clause are
abbrev pub IsUnmarked : Slots → List Bool → ℕ → Type 0
IsUnmarked slots marks r = (c : List Literal) → clause_at slots r ≡ Some c
    → are_marked marks c ≡ false

-- nor of the clause of any of the entries
abbrev pub AreUnmarked : Slots → List Bool → List WatchEntry → Type 0
AreUnmarked slots marks row = AllByRecursion (λ w. IsUnmarked slots marks w.reference) row
