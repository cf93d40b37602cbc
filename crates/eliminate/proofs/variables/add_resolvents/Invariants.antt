-- All pairs of the clauses so far are resolved.
use Rattle.std.proofs.Common.{◌≡◌, false, take}
use Rattle.eliminate.specs.Simplifier.{StaysSimplified}
use Rattle.eliminate.specs.Variables.{GrowsWithout, ArePairsResolved}
use Rattle.eliminate.proofs.variables.add_resolvents.Given as goal

abbrev pub invariant-loop-first : goal.invariant-loop-first
invariant-loop-first g l = record {
  simplified : StaysSimplified l.fn.simplifier l.fn.store.slots (g.S.Sink.lines l.fn.sink)
      l.simplifier l.store.slots (g.S.Sink.lines l.sink);
  works : l.simplifier.is_refuted ≡ false;
  grows : GrowsWithout l.parents.pivot l.fn.store.slots l.store.slots;
  resolved : ArePairsResolved l.parents.pivot l.fn.store.slots l.store.slots
      (take l.first-index l.first-items) l.parents.negative.items;
}
