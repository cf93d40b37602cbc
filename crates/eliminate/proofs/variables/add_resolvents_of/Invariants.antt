-- The pairs so far are resolved.
use Rattle.std.proofs.Common.{◌≡◌, false, take}
use Rattle.std.specs.Prelude.{All}
use Rattle.eliminate.specs.Simplifier.{StaysSimplified}
use Rattle.eliminate.specs.Variables.{GrowsWithout, IsPairResolved}
use Rattle.eliminate.proofs.variables.add_resolvents_of.Given as goal

abbrev pub invariant-loop-second : goal.invariant-loop-second
invariant-loop-second g l = record {
  simplified : StaysSimplified l.fn.simplifier l.fn.store.slots (g.S.Sink.lines l.fn.sink)
      l.simplifier l.store.slots (g.S.Sink.lines l.sink);
  works : l.simplifier.is_refuted ≡ false;
  grows : GrowsWithout l.parents.pivot l.fn.store.slots l.store.slots;
  resolved : All (IsPairResolved l.parents.pivot l.fn.store.slots l.store.slots l.first)
      (take l.second-index l.second-items);
}
