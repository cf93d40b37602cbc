-- The formula stays.
use Rattle.std.proofs.Common.{◌≡◌, false}
use Rattle.eliminate.specs.Variables.{StaysOver}
use Rattle.eliminate.proofs.variables.eliminate_variables.Given as goal

abbrev pub invariant-loop-try : goal.invariant-loop-try
invariant-loop-try g l = record {
  simplified : StaysOver l.frozen l.fn.simplifier l.fn.store.slots (g.S.Sink.lines l.fn.sink)
      l.simplifier l.store.slots (g.S.Sink.lines l.sink);
  works : l.simplifier.is_refuted ≡ false;
}
