-- What was right is so with the variables so far.
use Rattle.eliminate_pairs.specs.Pairs.{stage_of, Replaces}
use Rattle.eliminate_pairs.proofs.pairs.define_counted.Given as goal

abbrev pub invariant-loop-k : goal.invariant-loop-k
invariant-loop-k g l =
    Replaces (stage_of l.range.after l.fn.store.slots l.fn.names (g.S.Sink.lines l.fn.sink))
    l.range.most l.last
    l.store.slots l.names (g.S.Sink.lines l.sink)
