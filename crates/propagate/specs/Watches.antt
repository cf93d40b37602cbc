-- How an engine keeps the clauses that are attached to it.
use Rattle.std.specs.Prelude.{◌≡◌, ℕ, ◌*◌, ◌+◌, ◌≤◌, Bool, false, List, [], length}
use Rattle.std.specs.Prelude.{◌==◌, if◌then◌else◌, count_by}
use Rattle.cnf.specs.Literal.{Literal, index_of}
use Rattle.propagate_watches.specs.declared.pool.WatchEntry.{WatchEntry}
use Rattle.propagate_watches.specs.declared.table.Attachment.{Attachment}
use Rattle.propagate_watches.specs.declared.table.Attachment.TheVariants.{Detached, Waiting}
use Rattle.propagate_watches.specs.declared.table.Attachment.TheVariants.{Satisfied}
use Rattle.propagate_watches.specs.declared.table.Attachment.TheVariants.{Watching}
use Rattle.propagate_watches.specs.Table.{attachment_in, is_kept, IsWatching}
use Rattle.propagate_trail.specs.Trail.{Assigned, TrailState}
pub use Rattle.propagate_trail.specs.Trail.{IsVariable}

pub record Watches : Type 0 where
  -- for each reference, whether it is attached, and its two watches
  pub table : List Attachment
  -- for each literal, the clauses that watch it
  pub rows : List (List WatchEntry)
  -- the clauses without watches that are to be looked at, and others
  pub waiting : List ℕ
  -- how much of the trail was looked at, at its levels' ends too
  pub stable_qhead : ℕ
  -- how much of the trail was looked at
  pub qhead : ℕ

pub record EngineState : Type 0 where
  pub variables : ℕ
  pub trail : List Assigned
  pub failed : Bool
  pub watches : Watches

abbrev pub engine_state : TrailState → List Attachment → List (List WatchEntry) → List ℕ → ℕ → ℕ
    → Bool
    → EngineState
engine_state trail table rows waiting stable_qhead qhead failed = record {
  variables = trail.variables;
  trail = trail.assigned;
  failed = failed;
  watches = record {
    table = table;
    rows = rows;
    waiting = waiting;
    stable_qhead =
        stable_qhead;
    qhead = qhead;
  };
}

abbrev pub is_attached : EngineState → ℕ → Bool
is_attached e r = is_kept (attachment_in e.watches.table r)

-- the same clauses are attached
abbrev pub SameAttached : EngineState → EngineState → Type 0
SameAttached old new = (r : ℕ) → is_attached new r ≡ is_attached old r

-- r is attached or not, and all others as before
abbrev pub SetsAttached : EngineState → EngineState → ℕ → Bool → Type 0
SetsAttached old new r attached = (is_attached new r ≡ attached)
    × ((q : ℕ) → (q ≡ r → ⊥) → is_attached new q ≡ is_attached old q)

-- over the same variables, and failed where it had failed before
abbrev pub SameFrame : EngineState → EngineState → Type 0
SameFrame old new = (new.variables ≡ old.variables) × (new.failed ≡ old.failed)

-- over `variables` variables, with nothing true, and it has not failed
abbrev pub IsBare : ℕ → EngineState → Type 0
IsBare variables e = (e.variables ≡ variables) × (e.trail ≡ []) × (e.failed ≡ false)

-- how often the row has the clause
abbrev pub count_in : ℕ → List WatchEntry → ℕ
count_in r row = count_by (λ w. w.reference == r) row

abbrev pub one_at : ℕ → ℕ → ℕ
one_at i j = if i == j then 1 else 0

-- how often a clause in this place stands in a row
abbrev pub watches_at : Attachment → ℕ → ℕ
watches_at Detached i = 0
watches_at Waiting i = 0
watches_at Satisfied i = 0
watches_at (Watching one other rest) i = one_at (index_of one) i + one_at (index_of other) i

-- what holds of an engine between its calls
pub record IsEngine (e : EngineState) : Type 0 where
  pub rows : length e.watches.rows ≡ 2 * e.variables
  pub watching : (r : ℕ) (one other : Literal)
      → IsWatching (attachment_in e.watches.table r) one other → IsVariable e.variables one
      × IsVariable e.variables other
  pub stable_qhead : e.watches.stable_qhead ≤ e.watches.qhead
  pub qhead : e.watches.qhead ≤ length e.trail
