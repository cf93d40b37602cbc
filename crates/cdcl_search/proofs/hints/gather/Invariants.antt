use Rattle.std.proofs.Common.{◌≤◌, [], take}
use Rattle.std.specs.Prelude.{All}
use Rattle.cdcl_search.specs.Moves.{Gathers}
use Rattle.cdcl_search.proofs.hints.gather.Given as goal

abbrev pub invariant-loop-reference : goal.invariant-loop-reference
invariant-loop-reference l = record {
  past : All (λ n. n ≤ l.stamp) l.stamps;
  gathers : Gathers (l.sources).store.now.slots (l.sources).names.now (l.sources).units.now
      (l.sources).engine.now.trail l.stamp l.references
      (take l.reference-index l.references) [] l.stamps l.hints.items;
}
