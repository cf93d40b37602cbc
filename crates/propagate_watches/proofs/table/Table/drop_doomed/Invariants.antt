use Rattle.propagate_watches.specs.Doomed.{IsSparing}
use Rattle.propagate_watches.proofs.table.Table.drop_doomed.Given as goal

abbrev pub invariant-loop-at : goal.invariant-loop-at
invariant-loop-at l = IsSparing l.doomed l.fn.self l.self l.at
