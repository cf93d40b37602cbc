-- Learned clauses that are marked, detached and deleted.
use Rattle.std.specs.Prelude.{◌≡◌, ℕ, ◌<◌, ◌≤◌, Bool, true, false, not, List, length, Some}
use Rattle.std.specs.Prelude.{All, slice_index_or}
use Rattle.cnf.specs.Literal.{Literal}
use Rattle.clauses.specs.Slots.{clause_at, IsLive}
use Rattle.propagate.specs.Trail.{literals_of, kept_to, depth_of}
use Rattle.propagate.specs.Watches.{is_attached}
use Rattle.propagate.specs.Doomed.{is_doomed}
use Rattle.propagate.specs.Fits.{Fits}
use Rattle.analyze.specs.Analyzer.{IsFixpoint}
use Rattle.lrat_log.specs.declared.log.TheConstants.{LINE_LIMIT}
use Rattle.lrat_log.specs.Log.{LogLine}
use Rattle.cdcl_search.specs.declared.input.Input.{Input}
use Rattle.cdcl_search.specs.declared.search.Search.{Search}
use Rattle.cdcl_search.specs.Invariant.{name_at, is_kept_name, zero_of, NotesUnits, IsRecorded}
use Rattle.cdcl_search.specs.Running.{tables_of, HasRoom}
use Rattle.cdcl_search.specs.Moves.{MayBeDeleted}

-- the mark of each clause that has one says that it may be deleted, and it is among the first of
-- those chosen
pub record AreMarked (s : Search) (chosen : List ℕ) (first : ℕ)
    (doomed : List Bool) : Type 0 where
  pub long : length doomed ≡ length (s.store).slots
  pub may : (r : ℕ) → is_doomed doomed r ≡ true → MayBeDeleted s r
  pub among : (r : ℕ) → is_doomed doomed r ≡ true
      → (i : ℕ) × (i < first) × (slice_index_or chosen i 0 ≡ r)

-- marked clauses are detached and leave one by one; all else is as in a search that runs
pub record IsDeleting (s : Search) (p : Input) (ls : List LogLine)
    (doomed : List Bool) : Type 0 where
  pub recorded : IsRecorded (s.store).slots p.stack (tables_of s) (p.frozen).items p.first
      p.given ls
  pub works : (s.engine).failed ≡ false
  pub fits : Fits s.engine (s.store).slots
  pub attached : (r : ℕ) → IsLive (s.store).slots r
      → is_attached s.engine r ≡ not (is_doomed doomed r)
  pub fixpoint : (level : ℕ) → level < depth_of (s.engine).trail
      → IsFixpoint (s.store).slots (literals_of (kept_to level (s.engine).trail))
  pub variables : (s.engine).variables ≡ (p.stack).variables
  pub units : NotesUnits (s.store).slots (zero_of (s.engine).trail) (depth_of (s.engine).trail)
      (s.units).items s.noted
  pub room : HasRoom s
  pub past : All (λ n. n ≤ s.additions) (s.stamps).items
  pub few : s.additions < LINE_LIMIT
  pub long : length doomed ≡ length (s.store).slots
  pub droppable : (r : ℕ) (c : List Literal) → clause_at (s.store).slots r ≡ Some c
      → is_doomed doomed r ≡ true
      → (2 < length c) × (is_kept_name s.kept (name_at (s.names).items r) ≡ false)
