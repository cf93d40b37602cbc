-- What holds of a solver between its calls, and between the moves of a search.
use Rattle.std.specs.Prelude.{◌≡◌, ℕ, ◌-◌, ◌<◌, ◌≤◌, Bool, true, false, List, [], ◌∷◌, length, take}
use Rattle.std.specs.Prelude.{map, Option, Some, None, slice_index_or, nat_le, All, Contains, ◌⊎◌}
use Rattle.std.specs.List.{AllByRecursion}
use Rattle.cnf.specs.Literal.{Literal}
use Rattle.cnf.specs.Clause.{Satisfies}
use Rattle.cnf.specs.Lrat.{IsId}
use Rattle.cnf.specs.Refute.{Clauses, IsRefutedByHints}
use Rattle.cnf.specs.Bits.{assignment_of}
use Rattle.clauses.specs.Slots.{Slots, clause_at, IsLive}
use Rattle.propagate.specs.Trail.{Assigned, literals_of, kept_to, depth_of}
use Rattle.propagate.specs.Watches.{EngineState, is_attached}
use Rattle.propagate.specs.Fits.{Fits}
use Rattle.analyze.specs.Analyzer.{IsFixpoint}
use Rattle.lrat_log.specs.declared.lines.Name.{Name}
use Rattle.lrat_log.specs.declared.lines.Name.TheVariants.{Formula, Added}
use Rattle.lrat_log.specs.Log.{LogLine, Given, id_of, number_in}
use Rattle.lrat_log.specs.Steps.{AddsNoEmptyClause, IsBaseOf, log_live, added_count}
use Rattle.lrat_log.specs.Axioms.{StaysOpenLogOver}
use Rattle.reconstruction.specs.Stack.{StackState, IsFree}
use Rattle.reconstruction.specs.Removals.{extended}

-- what a solver keeps beside its store and engine
pub record Tables : Type 0 where
  -- the name of the clause in each place of the store
  pub names : List Name
  -- for each variable, where its literal stands as a clause by itself
  pub units : List (Option ℕ)
  -- how many literals of level 0 have such a clause: the first ones of the trail
  pub noted : ℕ
  -- how many additions `eliminate` made, and how many there are now
  pub kept : ℕ
  pub additions : ℕ

abbrev pub name_at : List Name → ℕ → Name
name_at names r = slice_index_or names r (Formula 0)

-- The log.

-- it stays a log over what is given, with clauses from outside, the empty clause was not added, and
-- its additions are counted
pub record IsOpenLog (variables : ℕ) (given : Given) (ls : List LogLine)
    (additions : ℕ) : Type 0 where
  pub stays : StaysOpenLogOver variables given ls
  pub unrefuted : AddsNoEmptyClause ls
  pub counted : additions ≡ added_count ls

-- The names.

-- the store holds just what is live, each clause under a name of its own
pub record NamesWhatIsLive (slots : Slots) (names : List Name) (base : ℕ)
    (at : Clauses) : Type 0 where
  pub named : (r : ℕ) (c : List Literal) → clause_at slots r ≡ Some c
      → at (id_of base (name_at names r)) ≡ Some c
  pub only : (i : ℕ) (c : List Literal) → at i ≡ Some c
      → (r : ℕ) × (clause_at slots r ≡ Some c) × (id_of base (name_at names r) ≡ i)
  pub apart : (q r : ℕ) → IsLive slots q → IsLive slots r
      → id_of base (name_at names q) ≡ id_of base (name_at names r) → q ≡ r

pub record NamesStore (slots : Slots) (names : List Name) (given : Given)
    (ls : List LogLine) : Type 0 where
  pub as_many : length names ≡ length slots
  pub live : (base : ℕ) → IsBaseOf given base
      → NamesWhatIsLive slots names base (log_live given base ls)

-- The engine.

-- it has not failed, looks at all clauses, and was at a fixpoint at the end of each level below the
-- current one
pub record Searches (e : EngineState) (slots : Slots) : Type 0 where
  pub works : e.failed ≡ false
  pub fits : Fits e slots
  pub all_attached : (r : ℕ) → IsLive slots r → is_attached e r ≡ true
  pub fixpoint : (level : ℕ) → level < depth_of e.trail
      → IsFixpoint slots (literals_of (kept_to level e.trail))

-- The literals of level 0.

-- the literal stands as a clause by itself where its variable's table says
abbrev pub HasUnit : Slots → List (Option ℕ) → Literal → Type 0
HasUnit slots units l = (r : ℕ) × (slice_index_or units (l.variable - 1) None ≡ Some r)
    × (clause_at slots r ≡ Some (l ∷ []))

-- the first `noted` literals of level 0 do, and above that level all of them
pub record NotesUnits (slots : Slots) (zero : List Literal) (depth : ℕ) (units : List (Option ℕ))
    (noted : ℕ) : Type 0 where
  pub have : AllByRecursion (HasUnit slots units) (take noted zero)
  pub within : noted ≤ length zero
  pub all : 0 < depth → length zero ≤ noted

abbrev pub zero_of : List Assigned → List Literal
zero_of trail = literals_of (kept_to 0 trail)

-- Reconstruction of the clauses given.

-- a clause that was given, or that `eliminate` added: it is never deleted later
abbrev pub is_kept_name : ℕ → Name → Bool
is_kept_name kept (Formula i) = true
is_kept_name kept (Added j) = nat_le j kept

-- all kept clauses are true
abbrev pub SatisfiesKept : Slots → List Name → ℕ → List Bool → Type 0
SatisfiesKept slots names kept bits = (r : ℕ) (c : List Literal) → clause_at slots r ≡ Some c
    → is_kept_name kept (name_at names r) ≡ true → Satisfies (assignment_of bits) c

abbrev pub LeadsBack : Slots → List Name → ℕ → StackState → Given → Type 0
LeadsBack slots names kept stack given = (bits : List Bool) → length bits ≡ stack.variables
    → SatisfiesKept slots names kept bits
    → All (λ g. Satisfies (assignment_of (extended stack.removed bits)) g.1) given

-- where propagation alone refutes the formula, or the empty clause was given, it is live
abbrev pub KeepsPlain : Slots → ℕ → Given → Type 0
KeepsPlain slots first given =
    IsRefutedByHints (map (λ g. g.1) (take first given)) ⊎ Contains (map (λ g. g.1) given) []
    → (r : ℕ) × (clause_at slots r ≡ Some [])

-- what is known of store, names and log, whatever the engine does
pub record IsRecorded (slots : Slots) (stack : StackState) (tables : Tables) (frozen : List Bool)
    (first : ℕ) (given : Given) (ls : List LogLine) : Type 0 where
  pub log : IsOpenLog (length frozen) given ls tables.additions
  pub names : NamesStore slots tables.names given ls
  pub numbers : All (λ n. IsId (number_in n)) tables.names
  pub many_units : length tables.units ≡ stack.variables
  pub kept : tables.kept ≤ tables.additions
  pub not_frozen : All (λ r. IsFree frozen r.variable) stack.removed
  pub back : LeadsBack slots tables.names tables.kept stack given
  pub plain : KeepsPlain slots first given

-- while it hasn't failed, and the empty clause was not added
pub record IsRunning (e : EngineState) (slots : Slots) (stack : StackState) (tables : Tables)
    (frozen : List Bool) (first : ℕ) (given : Given) (ls : List LogLine) : Type 0 where
  pub recorded : IsRecorded slots stack tables frozen first given ls
  pub searches : Searches e slots
  pub variables : e.variables ≡ stack.variables
  pub units : NotesUnits slots (zero_of e.trail) (depth_of e.trail) tables.units tables.noted
