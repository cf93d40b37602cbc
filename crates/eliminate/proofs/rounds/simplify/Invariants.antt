-- The formula stays, and the empty clause.
use Rattle.std.proofs.Common.{◌≡◌, true}
use Rattle.eliminate.specs.Variables.{StaysOver}
use Rattle.eliminate.proofs.rounds.simplify.Given as goal

abbrev pub invariant-loop-round : goal.invariant-loop-round
invariant-loop-round g l = record {
  simplified : StaysOver l.frozen l.fn.simplifier l.fn.store.slots (g.S.Sink.lines l.fn.sink)
      l.simplifier l.store.slots (g.S.Sink.lines l.sink);
  refuted : l.fn.simplifier.is_refuted ≡ true → l.simplifier.is_refuted ≡ true;
}
