-- The definition stands, and what was right is so with its variable.
use Rattle.eliminate_pairs.specs.Pairs.{stage_of}
use Rattle.eliminate_pairs.proofs.Defining.{Defines}
use Rattle.eliminate_pairs.proofs.pairs.define_found.Given as goal

abbrev pub invariant-loop-k : goal.invariant-loop-k
invariant-loop-k g l =
    Defines (stage_of l.pair.vars l.fn.store.slots l.fn.names (g.S.Sink.lines l.fn.sink))
    l.pair.vars
    l.definition l.store.slots l.names (g.S.Sink.lines l.sink)
