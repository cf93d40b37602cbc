-- What is known while hints are gathered, and of tables after a compaction.
use Rattle.std.specs.Prelude.{◌≡◌, ℕ, ◌-◌, ◌<◌, true, false, List, length, map, Option, Some, None}
use Rattle.std.specs.Prelude.{All, unwrap_or, slice_index_or}
use Rattle.cnf.specs.Literal.{Literal, negation}
use Rattle.cnf.specs.Clause.{contains_literal, has_repeat}
use Rattle.clauses.specs.Slots.{Slots, clause_at, Renaming}
use Rattle.propagate.specs.Trail.{Assigned}
use Rattle.propagate.specs.Fits.{renamed_reason}
use Rattle.clauses.specs.Within.{Within}
use Rattle.lrat_log.specs.declared.lines.Name.{Name}
use Rattle.lrat_log.specs.declared.lines.Hint.{Hint}
use Rattle.lrat_log.specs.Log.{LogLine}
use Rattle.cdcl_search.specs.declared.input.Input.{Input}
use Rattle.cdcl_search.specs.declared.search.Search.{Search}
use Rattle.cdcl_search.specs.Invariant.{name_at, is_kept_name, HasUnit, zero_of, IsRunning}
use Rattle.cdcl_search.specs.Running.{tables_of}
use Rattle.cdcl_search.specs.Hinting.{plain_hints, Serves, IsNeededBy}

-- where the clause of a literal of level 0 stands
abbrev pub unit_at : List (Option ℕ) → Literal → ℕ
unit_at units l = unwrap_or (slice_index_or units (l.variable - 1) None) 0

abbrev pub HaveUnits : Slots → List (Option ℕ) → List Literal → Type 0
HaveUnits slots units zeros = (l : Literal) → contains_literal l zeros ≡ true
    → HasUnit slots units l

-- what is false of the literals at level 0 is so by these
abbrev pub CoversZero : List Assigned → List Literal → List Literal → Type 0
CoversZero T zeros c = (k : Literal) → contains_literal k c ≡ true
    → contains_literal (negation k) (zero_of T) ≡ true
    → contains_literal (negation k) zeros ≡ true

-- the hints name the clauses of literals of level 0, each once, which are those that have the
-- stamp; of some clauses, and of some literals of one more, they are all that is needed
pub record Gathers (slots : Slots) (names : List Name) (units : List (Option ℕ)) (T : List Assigned)
    (stamp : ℕ) (all done : List ℕ) (part : List Literal) (stamps : List ℕ)
    (hints : List Hint) : Type 0 where
  pub zeros : List Literal
  pub spelled : hints ≡ plain_hints (map (name_at names) (map (unit_at units) zeros))
  pub marked : (l : Literal) → contains_literal l zeros ≡ true
      → slice_index_or stamps (l.variable - 1) 0 ≡ stamp
  pub stands : (v : ℕ) → v < length stamps → slice_index_or stamps v 0 ≡ stamp
      → (l : Literal) × (contains_literal l zeros ≡ true) × (l.variable - 1 ≡ v)
  pub from_one : (l : Literal) → contains_literal l zeros ≡ true → 0 < l.variable
  pub within : Within zeros (zero_of T)
  pub once : has_repeat zeros ≡ false
  pub have : HaveUnits slots units zeros
  pub serves : Serves (clause_at slots) (zero_of T) zeros done
  pub covers : CoversZero T zeros part
  pub needed : (z : Literal) → contains_literal z zeros ≡ true → IsNeededBy slots all z

-- each clause has its name at its new place
abbrev pub NamesMoved : List Name → List Name → Renaming → Type 0
NamesMoved old new moves = All (λ m. name_at new m.1 ≡ name_at old m.0) moves

-- each clause of one literal stands under its new reference
abbrev pub UnitsMoved : List (Option ℕ) → List (Option ℕ) → Renaming → Type 0
UnitsMoved old new moves = (v : ℕ) → slice_index_or new v None
    ≡ renamed_reason moves (slice_index_or old v None)

-- whatever clauses are given and lines are written: what is known of store, engine and tables stays
abbrev pub KeepsState : Search → Search → Type 0
KeepsState old new = (p : Input) (ls : List LogLine)
    → IsRunning old.engine (old.store).slots p.stack (tables_of old) (p.frozen).items p.first
    p.given ls
    → IsRunning new.engine (new.store).slots p.stack (tables_of new) (p.frozen).items p.first
    p.given ls

-- the clause is live, was learned, has more than two literals and is no reason
pub record MayBeDeleted (s : Search) (r : ℕ) : Type 0 where
  pub clause : List Literal
  pub live : clause_at (s.store).slots r ≡ Some clause
  pub long : 2 < length clause
  pub learned : is_kept_name s.kept (name_at (s.names).items r) ≡ false
  pub no_reason : All (λ a. a.reason ≡ Some r → ⊥) (s.engine).trail
