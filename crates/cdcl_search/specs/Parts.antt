-- What the parts of a turn promise. Where memory was refused, the log stays open.
use Rattle.std.specs.Prelude.{◌≡◌, ℕ, ◌+◌, ◌≤◌, List, [], ◌∷◌, ◌++◌, length, slice_index_or, Some}
use Rattle.std.specs.Prelude.{Bool, true, Result, OnOk, OnErr}
use Rattle.clauses.specs.Slots.{IsLive}
use Rattle.propagate.specs.Doomed.{is_doomed}
use Rattle.propagate.specs.Trail.{literals_of}
use Rattle.propagate.specs.Fits.{IsFalseClause}
use Rattle.analyze.specs.Analyzer.{IsFixpoint}
use Rattle.cdcl_order.specs.Orders.{positive}
use Rattle.lrat_log.specs.Log.{LogLine}
use Rattle.cdcl_search.specs.declared.input.Input.{Input}
use Rattle.cdcl_search.specs.declared.search.Search.{Search}
use Rattle.cdcl_search.specs.Invariant.{zero_of}
use Rattle.cdcl_search.specs.Running.{Runs, Writes, StaysOpen}
use Rattle.cdcl_search.specs.Deletions.{IsDeleting}

-- A part of a turn learns nothing, and leaves what is said of it.
pub record LearnsNothing {A E : Type 0} (result : Result A E) (Left : Type 0) (p : Input)
    (before after : List LogLine) : Type 0 where
  pub leaves : OnOk result Left
  pub writes : Writes p.given before after 0
  pub err : OnErr result (StaysOpen p after)

-- A clause was learned.
pub record Learns (old new : Search) (p : Input) (before after : List LogLine) : Type 0 where
  pub runs : Runs new p after
  pub variables : (new.engine).variables ≡ (old.engine).variables
  pub writes : Writes p.given before after 1

-- The next literal of level 0 got a clause of its own.
pub record NotesNext (old new : Search) (p : Input) (before after : List LogLine) : Type 0 where
  pub runs : Runs new p after
  pub noted : new.noted ≡ old.noted + 1
  pub trail : (new.engine).trail ≡ (old.engine).trail
  pub variables : (new.engine).variables ≡ (old.engine).variables
  pub policy : new.policy ≡ old.policy
  pub slots : (new.store).slots ≡ (old.store).slots
      ++ Some (slice_index_or (literals_of (old.engine).trail) old.noted (positive 0) ∷ []) ∷ []
  pub writes : Writes p.given before after 0

-- Clauses of one true literal came: what was at a fixpoint or false is so still.
pub record KeepsTrail (old new : Search) (p : Input) (ls : List LogLine) : Type 0 where
  pub runs : Runs new p ls
  pub trail : (new.engine).trail ≡ (old.engine).trail
  pub variables : (new.engine).variables ≡ (old.engine).variables
  pub policy : new.policy ≡ old.policy
  pub fixpoint : IsFixpoint (old.store).slots (literals_of (old.engine).trail)
      → IsFixpoint (new.store).slots (literals_of (new.engine).trail)
  pub false_stays : (r : ℕ) → IsFalseClause (old.store).slots old.engine r
      → IsFalseClause (new.store).slots new.engine r

-- And each literal of level 0 has one.
pub record NotesAll (old new : Search) (p : Input) (ls : List LogLine) : Type 0 where
  pub keeps : KeepsTrail old new p ls
  pub all : length (zero_of (new.engine).trail) ≤ new.noted

-- A clause that was detached was deleted, where it is marked and live.
pub record Deletes (old new : Search) (p : Input) (before after : List LogLine)
    (doomed : List Bool) (reference : ℕ) : Type 0 where
  pub deleting : IsDeleting new p after doomed
  pub gone : is_doomed doomed reference ≡ true → IsLive (new.store).slots reference → ⊥
  pub fewer : (r : ℕ) → IsLive (new.store).slots r → IsLive (old.store).slots r
  pub engine : new.engine ≡ old.engine
  pub policy : new.policy ≡ old.policy
  pub writes : Writes p.given before after 0

-- Learned clauses were deleted: as many literals are true.
pub record Reduces (old new : Search) (p : Input) (ls : List LogLine) : Type 0 where
  pub runs : Runs new p ls
  pub long : length (new.engine).trail ≡ length (old.engine).trail
  pub variables : (new.engine).variables ≡ (old.engine).variables
  pub policy : new.policy ≡ old.policy
