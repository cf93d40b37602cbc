-- How an engine and a store belong together, and what propagation does.
use Rattle.std.specs.Prelude.{◌≡◌, ◌≢◌, ℕ, ◌<◌, ◌≤◌, Bool, true, List, [], ◌∷◌, ◌++◌, take}
use Rattle.std.specs.Prelude.{Some, All, IfSome, Contains, ⊤, ◌⊎◌}
use Rattle.std.specs.List.{AllByRecursion}
use Rattle.cnf.specs.Literal.{Literal, negation}
use Rattle.cnf.specs.Clause.{contains_literal, greatest_variable}
use Rattle.cnf.specs.Refute.{IsUnit, IsFalseUnder}
use Rattle.clauses.specs.Slots.{Slots, clause_at, Renaming, renamed, IsRenaming}
use Rattle.propagate_watches.specs.Pool.{row_at}
use Rattle.propagate_watches.specs.declared.pool.WatchEntry.{WatchEntry}
use Rattle.propagate_watches.specs.declared.table.Attachment.{Attachment}
use Rattle.propagate_watches.specs.declared.table.Attachment.TheVariants.{Detached, Waiting}
use Rattle.propagate_watches.specs.declared.table.Attachment.TheVariants.{Satisfied}
use Rattle.propagate_watches.specs.declared.table.Attachment.TheVariants.{Watching}
use Rattle.propagate_watches.specs.declared.table.Rest.{Rest}
use Rattle.propagate_watches.specs.declared.table.Rest.TheVariants.{Nothing, One, Many}
use Rattle.propagate_watches.specs.Table.{attachment_in}
use Rattle.propagate_trail.specs.Trail.{Assigned, literals_of, kept_to, HasReasons}
use Rattle.propagate.specs.Watches.{EngineState, is_attached, watches_at, count_in}
pub use Rattle.propagate_trail.specs.Renames.{renamed_reason, renamed_trail}

-- some literal of the clause is true
abbrev pub HasTrue : List Literal → List Literal → Type 0
HasTrue c A = (k : Literal) × (contains_literal k c ≡ true) × (contains_literal k A ≡ true)

-- a watched literal that was found false is made up for by a true literal
abbrev pub IsCovered : List Literal → ℕ → List Literal → Literal → Type 0
IsCovered A qhead c w = contains_literal (negation w) (take qhead A) ≡ true → HasTrue c A

-- the same, also after any levels were undone
abbrev pub StaysCovered : List Assigned → ℕ → List Literal → Literal → Type 0
StaysCovered trail stable_qhead c w = (level : ℕ)
    → IsCovered (literals_of (kept_to level trail)) stable_qhead c w

-- the clause may be watched at this literal
pub record IsWatch (e : EngineState) (c : List Literal) (w : Literal) : Type 0 where
  pub member : contains_literal w c ≡ true
  pub covered : IsCovered (literals_of e.trail) e.watches.qhead c w
  pub stays : StaysCovered e.trail e.watches.stable_qhead c w

-- a clause over `variables` variables
abbrev pub IsWithin : ℕ → List Literal → Type 0
IsWithin variables c = All (λ l. 0 < l.variable) c × (greatest_variable c ≤ variables)

-- what a clause has beside two literals of it
abbrev pub IsRest : List Literal → Literal → Literal → Rest → Type 0
IsRest c one other Nothing = (l : Literal) → contains_literal l c ≡ true → (l ≡ one) ⊎ (l ≡ other)
IsRest c one other (One third) = (contains_literal third c ≡ true) × (third ≢ one) × (third ≢ other)
    × ((l : Literal) → contains_literal l c ≡ true → (l ≡ one) ⊎ (l ≡ other) ⊎ (l ≡ third))
IsRest c one other Many = ⊤

-- what is known of a clause in this place
abbrev pub FitsAttachment : EngineState → List Literal → Attachment → Type 0
FitsAttachment e c Detached = ⊥
FitsAttachment e c Waiting = ⊤
FitsAttachment e c Satisfied = HasTrue c (literals_of (kept_to 0 e.trail))
FitsAttachment e c (Watching one other rest) =
    (one ≢ other) × IsWatch e c one × IsWatch e c other × IsRest c one other rest

-- what is known of an attached clause
abbrev pub FitsClause : EngineState → ℕ → List Literal → Type 0
FitsClause e r c = IsWithin e.variables c × FitsAttachment e c (attachment_in e.watches.table r)

-- the other literal in an entry is one of the clause
abbrev pub HasBlocker : EngineState → Slots → WatchEntry → Type 0
HasBlocker e slots w = (c : List Literal) × (is_attached e w.reference ≡ true)
    × (clause_at slots w.reference ≡ Some c) × (contains_literal w.blocker c ≡ true)

-- the engine belongs to the store. It depends on the clauses of attached references alone.
pub record Fits (e : EngineState) (slots : Slots) : Type 0 where
  pub attached : (r : ℕ) → is_attached e r ≡ true → (c : List Literal)
      × (clause_at slots r ≡ Some c) × FitsClause e r c
  pub reasons : HasReasons (clause_at slots) [] e.trail
  pub reasons_attached : All (λ a. IfSome a.reason (λ r. is_attached e r ≡ true)) e.trail
  pub small : All (λ a. (0 < a.literal.variable) × (a.literal.variable ≤ e.variables)) e.trail
  -- the rows have what the table says
  pub rows : (i r : ℕ) → count_in r (row_at e.watches.rows i)
      ≡ watches_at (attachment_in e.watches.table r) i
  pub waiting : (r : ℕ) → attachment_in e.watches.table r ≡ Waiting → Contains e.watches.waiting r
  pub blockers : (i : ℕ) → AllByRecursion (HasBlocker e slots) (row_at e.watches.rows i)

-- it still belongs to each store to which it belonged
abbrev pub StaysFit : EngineState → EngineState → Type 0
StaysFit old new = (slots : Slots) → Fits old slots → Fits new slots

-- a law, by which the owner of both keeps it where the store changes
abbrev pub FitsIsLocal : Type 0
FitsIsLocal = (e : EngineState) (old new : Slots) → Fits e old
    → ((r : ℕ) → is_attached e r ≡ true → clause_at new r ≡ clause_at old r) → Fits e new

-- more literals, each unit in its turn in an attached clause, its reason
abbrev pub FollowByUnits : Slots → EngineState → List Literal → List Assigned → Type 0
FollowByUnits slots e A [] = Unit {0}
FollowByUnits slots e A (a ∷ more) =
    ((r : ℕ) × (c : List Literal) × (a.reason ≡ Some r) × (is_attached e r ≡ true)
    × (clause_at slots r ≡ Some c) × IsUnit c A a.literal)
    × FollowByUnits slots e (a.literal ∷ A) more

-- the trail grows at its end, by units
abbrev pub GrowsByUnits : Slots → EngineState → EngineState → Type 0
GrowsByUnits slots old new = (more : List Assigned) × (new.trail ≡ old.trail ++ more)
    × FollowByUnits slots new (literals_of old.trail) more

-- a live clause that is false under the trail
abbrev pub IsFalseClause : Slots → EngineState → ℕ → Type 0
IsFalseClause slots e r = (c : List Literal) × (clause_at slots r ≡ Some c)
    × IsFalseUnder c (literals_of e.trail)

-- no attached clause is false or unit under the trail
abbrev pub IsAttachedFixpoint : Slots → (ℕ → Bool) → List Assigned → Type 0
IsAttachedFixpoint slots attached trail = (r : ℕ) (c : List Literal) → attached r ≡ true
    → clause_at slots r ≡ Some c
    → (IsFalseUnder c (literals_of trail) → ⊥)
    × ((l : Literal) → IsUnit c (literals_of trail) l → ⊥)

-- attached references under their new names
pub record MovesAttached (old new : EngineState) (moves : Renaming) : Type 0 where
  pub to : (r q : ℕ) → renamed moves r ≡ Some q → is_attached new q ≡ is_attached old r
  pub from : (q : ℕ) → is_attached new q ≡ true → (r : ℕ) × (renamed moves r ≡ Some q)

-- what fitted the store before its clauses moved fits it afterwards
abbrev pub FitsMoved : EngineState → EngineState → Renaming → Type 0
FitsMoved old new moves = (before after : Slots) → IsRenaming before after moves → Fits old before
    → Fits new after
