-- What a simplifier's tables say of the store and the log: that together they are a simplified form
-- of some formula.
use Rattle.std.specs.Prelude.{◌≡◌, ℕ, ◌*◌, ◌+◌, ◌<◌, ◌≤◌, true, false, List, [], ◌∷◌, ◌++◌}
use Rattle.std.specs.Prelude.{length, slice_set, Some, None, All, Contains, Result, MatchResult}
use Rattle.cnf.specs.Literal.{Literal}
use Rattle.cnf.specs.Formula.{IsFormulaClause}
use Rattle.cnf.specs.declared.limits.TheConstants.{FORMULA_VARIABLE_LIMIT}
use Rattle.clauses.specs.Slots.{Slots, clause_at, live_clauses}
use Rattle.lrat_log.specs.Log.{LogLine, IsLine, is_learned}
use Rattle.lrat_log.specs.Steps.{given_of, StaysLogOver, AddsNoEmptyClause, learned_count}
use Rattle.cnf.specs.Clause.{is_empty_clause}
use Rattle.lrat_log.specs.Steps.{IsOwnGroup}
use Rattle.eliminate.specs.declared.ending.TheConstants.{MOST_FRESH}
use Rattle.eliminate.specs.declared.simplifier.Simplifier.{Simplifier}
use Rattle.reconstruction.specs.Removals.{is_eliminated}
use Rattle.lrat_log.specs.Steps.{added_count}
use Rattle.eliminate_names.specs.Work.{IsRupLine}
use Rattle.eliminate.specs.State.{Start, IsState}

-- the store and the tables are a simplified form of the formula at the start
pub record IsSimplified (start : Start) (s : Simplifier) (slots : Slots) (lines : List LogLine) :
    Type 0 where
  pub state : IsState start s.vars slots s.names.names lines s.occurrences.rows s.removals
  pub counted : s.names.additions ≡ added_count lines
  pub marks : length s.marks ≡ 2 * s.vars
  pub few : length start.frozen < FORMULA_VARIABLE_LIMIT
  pub given : length start.frozen ≤ s.vars
  pub fresh : s.vars ≤ length start.frozen + MOST_FRESH
  pub going : s.is_refuted ≡ false → AddsNoEmptyClause lines
  pub refuted : s.is_refuted ≡ true → Contains (live_clauses slots) []

-- of some formula
abbrev pub IsSimplifier : Simplifier → Slots → List LogLine → Type 0
IsSimplifier s slots lines = (start : Start) × IsSimplified start s slots lines

-- and the empty clause was not added
pub record IsOpen (s : Simplifier) (slots : Slots) (lines : List LogLine) : Type 0 where
  pub simplified : IsSimplifier s slots lines
  pub going : s.is_refuted ≡ false

-- a simplified form of a formula stays one of it
abbrev pub StaysSimplified : Simplifier → Slots → List LogLine → Simplifier → Slots → List LogLine
    → Type 0
StaysSimplified s slots lines t left more = (start : Start) → IsSimplified start s slots lines
    → IsSimplified start t left more

-- so do other tables, whatever the lines are, and they say the same of the empty clause
pub record KeepsForm (s t : Simplifier) (slots : Slots) : Type 0 where
  pub stays : (lines : List LogLine) → StaysSimplified s slots lines t slots lines
  pub refuted : t.is_refuted ≡ s.is_refuted

-- lines that stay a log over the formula, and learn nothing
abbrev pub IsLogOf : Start → List LogLine → Type 0
IsLogOf start lines = StaysLogOver (length start.frozen) (given_of start.clauses) lines
    × (learned_count lines ≡ 0)

-- what was simplified leaves such lines
abbrev pub LeavesLog : Simplifier → Slots → List LogLine → List LogLine → Type 0
LeavesLog s slots lines more = (start : Start) → IsSimplified start s slots lines
    → IsLogOf start more

-- what a pass leaves: a simplified form, and after an error such lines
abbrev pub Passes : {T E : Type 0} → Result T E → Simplifier → Slots → List LogLine → Simplifier
    → Slots → List LogLine → Type 0
Passes result s slots lines t left more =
    MatchResult result (λ _. StaysSimplified s slots lines t left more)
    (λ _. LeavesLog s slots lines more)

-- a line that may be added
pub record IsAddableLine (start : Start) (s : Simplifier) (lines : List LogLine) (l : LogLine) :
    Type 0 where
  pub follows : IsRupLine (given_of start.clauses) lines l
  pub own : All IsOwnGroup l.hints
  pub unlearned : is_learned l.kind ≡ false
  pub line : IsLine l
  pub clause : IsFormulaClause s.vars l.clause
  pub free : All (λ k. is_eliminated s.removals k.variable ≡ false) l.clause

-- so it is over whatever formula
abbrev pub IsAddable : Simplifier → Slots → List LogLine → LogLine → Type 0
IsAddable s slots lines l = (start : Start) → IsSimplified start s slots lines
    → IsAddableLine start s lines l

-- the clause that was built stands behind those before, under this reference
pub record AddsBuilt (s : Simplifier) (held : Slots) (t : Simplifier) (more : Slots) (r : ℕ) :
    Type 0 where
  pub reference : r ≡ length held
  pub slots : more ≡ held ++ Some s.clause.items ∷ []
  pub refuted : t.is_refuted ≡ is_empty_clause s.clause.items
  pub vars : t.vars ≡ s.vars
  pub removals : t.removals ≡ s.removals

-- the clause under this reference is gone
pub record Deletes (s : Simplifier) (held : Slots) (t : Simplifier) (left : Slots) (r : ℕ) :
    Type 0 where
  pub slots : left ≡ slice_set held r None
  pub going : t.is_refuted ≡ false
  pub vars : t.vars ≡ s.vars
  pub removals : t.removals ≡ s.removals

-- each clause keeps its place, and some may come
abbrev pub Grows : Slots → Slots → Type 0
Grows slots more = (r : ℕ) (c : List Literal) → clause_at slots r ≡ Some c
    → clause_at more r ≡ Some c
