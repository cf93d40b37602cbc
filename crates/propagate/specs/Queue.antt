-- What the looks at clauses answer.
use Rattle.std.specs.Prelude.{◌≢◌, ℕ, ◌+◌}
use Rattle.cnf.specs.Literal.{Literal}
use Rattle.clauses.specs.Slots.{Slots}
use Rattle.propagate_watches.specs.Table.{attachment_in, IsWatchedBy}
use Rattle.propagate.specs.declared.engine.queue.Look.{Look}
use Rattle.propagate.specs.declared.engine.queue.Look.TheVariants.{True, Watch, Unit as UnitLook}
use Rattle.propagate.specs.declared.engine.queue.Look.TheVariants.{False}
use Rattle.propagate.specs.declared.engine.queue.EntryFate.{EntryFate}
use Rattle.propagate.specs.declared.engine.queue.EntryFate.TheVariants.{Kept, Moved, Conflict}
use Rattle.propagate.specs.declared.engine.queue.EntryFate.TheVariants.{Refused}
use Rattle.propagate.specs.Watches.{EngineState}
use Rattle.propagate.specs.Steps.{IsTrueIn, MayBeWatched, IsUnitIn, IsFalseIn, InRow, IsConflict}

abbrev pub LookSays : Slots → EngineState → Literal → ℕ → Look → Type 0
LookSays slots e w r (True l) = IsTrueIn slots e r l
LookSays slots e w r (Watch other l) = IsWatchedBy (attachment_in e.watches.table r) w other
    × (l ≢ other) × MayBeWatched slots e r l
LookSays slots e w r (UnitLook l) = IsUnitIn slots e r l
LookSays slots e w r False = IsFalseIn slots e r

-- where a row is after a step
abbrev pub StepSays : Slots → EngineState → Literal → ℕ → ℕ → EntryFate → Type 0
StepSays slots e w write read Kept = InRow slots e w (write + 1) (read + 1)
StepSays slots e w write read Moved = InRow slots e w write (read + 1)
StepSays slots e w write read (Conflict r) = InRow slots e w write read × IsConflict slots e r
StepSays slots e w write read Refused = InRow slots e w write read
