-- What is left at the end, with the empty clause or without it.
use Rattle.std.specs.Prelude.{◌+◌, ◌≤◌, List, length, All}
use Rattle.clauses.specs.Slots.{live_clauses}
use Rattle.lrat_log.specs.Steps.{given_of}
use Rattle.eliminate_names.specs.Work.{IsWork}
use Rattle.eliminate_pairs.specs.Pairs.{Stage}
use Rattle.eliminate.specs.declared.ending.TheConstants.{MOST_FRESH}
use Rattle.reconstruction.specs.Stack.{IsFree, IsRemovedWithin}
use Rattle.reconstruction.specs.Removals.{Removed}
use Rattle.eliminate.specs.State.{Start, GivesBack, AreFree}

pub record IsResult (start : Start) (removed : List Removed) (s : Stage) : Type 0 where
  pub more : length start.frozen ≤ s.variables
  pub fresh : s.variables ≤ length start.frozen + MOST_FRESH
  pub work : IsWork (length start.frozen) s.variables (given_of start.clauses) s.slots s.names
      s.lines
  pub back : GivesBack s.variables removed start.clauses (live_clauses s.slots)
  pub within : All (IsRemovedWithin s.variables) removed
  pub free : AreFree removed s.slots
  pub not_frozen : All (λ r. IsFree start.frozen r.variable) removed
