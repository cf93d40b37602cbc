-- The small changes of an engine that propagation is made of.
use Rattle.std.specs.Prelude.{◌≡◌, ◌≢◌, ℕ, ◌≤◌, ◌<◌, length, take, Bool, true}
use Rattle.std.specs.Prelude.{false, List, [], ◌∷◌, ◌++◌, Option, Some, None, slice_set, ◌⊎◌}
use Rattle.std.specs.Prelude.{IfSome, IfNone}
use Rattle.std.specs.Bool.{MatchBool}
use Rattle.std.specs.List.{AllByRecursion}
use Rattle.cnf.specs.Literal.{Literal, negation, index_of}
use Rattle.cnf.specs.Clause.{contains_literal}
use Rattle.cnf.specs.Refute.{IsUnit, IsFalseUnder}
use Rattle.clauses.specs.Slots.{Slots, clause_at}
use Rattle.propagate_watches.specs.declared.pool.WatchEntry.{WatchEntry}
use Rattle.propagate_watches.specs.declared.table.Attachment.{Attachment}
use Rattle.propagate_watches.specs.declared.table.Attachment.TheVariants.{Detached, Waiting}
use Rattle.propagate_watches.specs.declared.table.Attachment.TheVariants.{Satisfied}
use Rattle.propagate_watches.specs.declared.table.Attachment.TheVariants.{Watching}
use Rattle.propagate_watches.specs.declared.table.Rest.{Rest}
use Rattle.propagate_watches.specs.Pool.{row_at, with_row, closed_row}
use Rattle.propagate_watches.specs.Table.{attachment_in, rest_in, IsWatchedBy, rest_after}
use Rattle.propagate_watches.specs.Table.{grown_table}
use Rattle.propagate_trail.specs.Trail.{Assigned, literals_of, is_decision, value_in}
use Rattle.propagate.specs.Watches.{EngineState, SameAttached, IsVariable, is_attached}
use Rattle.propagate.specs.Fits.{Fits, HasTrue, IsRest, IsWithin, IsFalseClause, IsAttachedFixpoint}

abbrev pub with_rows : EngineState → List (List WatchEntry) → EngineState
with_rows e rows = record e { watches = record e.watches { rows = rows } }

abbrev pub with_trail : EngineState → List Assigned → EngineState
with_trail e trail = record e { trail = trail }

abbrev pub with_attachment : EngineState → ℕ → Attachment → EngineState
with_attachment e r p =
    record e { watches = record e.watches { table = slice_set e.watches.table r p } }

-- the engine with a row in which the entries from place `write` to place `read` are gone
abbrev pub closed : EngineState → ℕ → ℕ → ℕ → EngineState
closed e i write read = with_rows e (with_row e.watches.rows i
    (closed_row write read (row_at e.watches.rows i)))

abbrev pub entry_of : ℕ → Literal → WatchEntry
entry_of r blocker = record { reference = r; blocker = blocker }

abbrev pub pushed : List (List WatchEntry) → Literal → WatchEntry → List (List WatchEntry)
pushed rows l w = with_row rows (index_of l) (row_at rows (index_of l) ++ w ∷ [])

-- the clause watches `l` in the place of `w`, beside `other`
abbrev pub moved : EngineState → Literal → ℕ → Literal → Literal → EngineState
moved e w r other l = with_attachment (with_rows e (pushed e.watches.rows l (entry_of r other))) r
    (Watching l other (rest_after w (rest_in (attachment_in e.watches.table r))))

-- the clause watches both
abbrev pub watched : EngineState → ℕ → Literal → Literal → Rest → EngineState
watched e r one other rest = with_attachment (with_rows e
    (pushed (pushed e.watches.rows one (entry_of r other)) other (entry_of r one))) r
    (Watching one other rest)

-- the table has a place for the clause
abbrev pub with_room : EngineState → ℕ → EngineState
with_room e r =
    record e { watches = record e.watches { table = grown_table e.watches.table r } }

-- the clause waits
abbrev pub enlisted : EngineState → ℕ → EngineState
enlisted e r = record e {
  watches = record e.watches {
    table = slice_set (grown_table e.watches.table r) r Waiting;
    waiting = e.watches.waiting ++ r ∷ [];
  };
}

-- the trail grows by literals with reasons, and nothing else that a caller sees changes
pub record Continues (old new : EngineState) : Type 0 where
  pub more : List Assigned
  pub grown : new.trail ≡ old.trail ++ more
  pub forced : AllByRecursion (λ a. is_decision a ≡ false) more
  pub variables : new.variables ≡ old.variables
  pub failed : new.failed ≡ old.failed
  pub attached : SameAttached old new
  pub waiting : (r : ℕ) → attachment_in new.watches.table r ≡ Waiting
      → attachment_in old.watches.table r ≡ Waiting

-- it does so, and still belongs to the store
pub record GoesOn (slots : Slots) (old new : EngineState) : Type 0 where
  pub continues : Continues old new
  pub fits : Fits new slots

-- where the clause waits, it is true
abbrev pub IsTrueWaiting : Slots → EngineState → ℕ → Type 0
IsTrueWaiting slots e r = (c : List Literal) → attachment_in e.watches.table r ≡ Waiting
    → clause_at slots r ≡ Some c → HasTrue c (literals_of e.trail)

-- each clause that waits is true
abbrev pub AreTrueWaiting : Slots → EngineState → Type 0
AreTrueWaiting slots e = (r : ℕ) → IsTrueWaiting slots e r

abbrev pub is_waiting : Attachment → Bool
is_waiting Waiting = true
is_waiting Detached = false
is_waiting Satisfied = false
is_waiting (Watching one other rest) = false

-- an open literal becomes true by a clause, and one that has a value stays
abbrev pub IsMadeTrue : EngineState → EngineState → Literal → ℕ → Type 0
IsMadeTrue old new l r = ((value_in old.trail l ≡ None) × (0 < l.variable)
    × (new ≡ with_trail old (old.trail ++ record { literal = l; reason = Some r } ∷ [])))
    ⊎ ((value_in old.trail l ≢ None) × (new ≡ old))

-- the clause of the entry is true
abbrev pub IsTrueEntry : Slots → List Literal → WatchEntry → Type 0
IsTrueEntry slots A w = (c : List Literal) → clause_at slots w.reference ≡ Some c → HasTrue c A

-- a clause that is attached and false
abbrev pub IsConflict : Slots → EngineState → ℕ → Type 0
IsConflict slots e r = (is_attached e r ≡ true) × IsFalseClause slots e r

-- what is found is a conflict
abbrev pub FindsConflict : Slots → EngineState → Option ℕ → Type 0
FindsConflict slots e found = IfSome found (IsConflict slots e)

-- what a look at a clause that may wait answers
abbrev pub WaitSays : Slots → EngineState → ℕ → Bool → Type 0
WaitSays slots e r ok = MatchBool ok (IsTrueWaiting slots e r) (IsConflict slots e r)

-- what propagation answers: a conflict, or none, and then no attached clause is false or unit
pub record Settles (slots : Slots) (e : EngineState) (found : Option ℕ) : Type 0 where
  pub conflict : FindsConflict slots e found
  pub fixpoint : IfNone found (IsAttachedFixpoint slots (is_attached e) e.trail)

-- what is known of the clause of an entry in the row of a false literal
pub record IsWatched (slots : Slots) (e : EngineState) (w : Literal)
    (entry : WatchEntry) : Type 0 where
  pub clause : List Literal
  pub live : clause_at slots entry.reference ≡ Some clause
  pub within : IsWithin e.variables clause
  pub blocker : contains_literal entry.blocker clause ≡ true
  pub other : Literal
  pub attachment : IsWatchedBy (attachment_in e.watches.table entry.reference) w other
  pub apart : w ≢ other
  pub member : contains_literal other clause ≡ true
  pub rest : IsRest clause w other (rest_in (attachment_in e.watches.table entry.reference))
  pub falsified : contains_literal (negation w) (literals_of e.trail) ≡ true

-- what a look at the clause of an entry tells
abbrev pub IsTrueIn : Slots → EngineState → ℕ → Literal → Type 0
IsTrueIn slots e r l = (c : List Literal) → clause_at slots r ≡ Some c
    → (contains_literal l c ≡ true) × (contains_literal l (literals_of e.trail) ≡ true)

abbrev pub MayBeWatched : Slots → EngineState → ℕ → Literal → Type 0
MayBeWatched slots e r l = (value_in e.trail l ≢ Some false)
    × ((c : List Literal) → clause_at slots r ≡ Some c → contains_literal l c ≡ true)

abbrev pub IsUnitIn : Slots → EngineState → ℕ → Literal → Type 0
IsUnitIn slots e r l = (value_in e.trail l ≡ None) × (l.variable ≤ e.variables)
    × ((c : List Literal) → clause_at slots r ≡ Some c → IsUnit c (literals_of e.trail) l)

abbrev pub IsFalseIn : Slots → EngineState → ℕ → Type 0
IsFalseIn slots e r = (c : List Literal) → clause_at slots r ≡ Some c
    → IsFalseUnder c (literals_of e.trail)

-- all literals but one are false
abbrev pub LeavesOne : Slots → EngineState → ℕ → Literal → Type 0
LeavesOne slots e r o = (c : List Literal) → clause_at slots r ≡ Some c
    → AllByRecursion (λ l. (l ≡ o) ⊎ (contains_literal (negation l) (literals_of e.trail) ≡ true)) c

-- a row that is being filtered: what it keeps is true
pub record InRow (slots : Slots) (e : EngineState) (w : Literal) (write read : ℕ) : Type 0 where
  pub fits : Fits (closed e (index_of w) write read) slots
  pub waiting : AreTrueWaiting slots e
  pub falsified : contains_literal (negation w) (literals_of e.trail) ≡ true
  pub in_range : IsVariable e.variables w
  pub kept : AllByRecursion (IsTrueEntry slots (literals_of e.trail))
      (take write (row_at e.watches.rows (index_of w)))
  pub order : write ≤ read
  pub within : read ≤ length (row_at e.watches.rows (index_of w))
