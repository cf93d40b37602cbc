use Rattle.std.proofs.Common.{ℕ, ◌≤◌, List, [], take}
use Rattle.std.specs.Prelude.{All, Contains}
use Rattle.cdcl_search.specs.Moves.{Gathers}
use Rattle.cdcl_search.proofs.hints.add_units.Given as goal

abbrev pub invariant-loop-lit : goal.invariant-loop-lit
invariant-loop-lit l = record {
  past : All (λ n. n ≤ l.stamp) l.stamps;
  gathers : (all done : List ℕ) → Contains all l.fn.reference
      → Gathers (l.sources).store.now.slots (l.sources).names.now (l.sources).units.now
      (l.sources).engine.now.trail l.stamp all done [] l.initial.stamps
      l.initial.hints.items
      → Gathers (l.sources).store.now.slots (l.sources).names.now (l.sources).units.now
      (l.sources).engine.now.trail l.stamp all done
      (take l.lit-index l.lit-items) l.stamps l.hints.items;
}
