use Rattle.std.proofs.Common.{take}
use Rattle.cnf.specs.Literal.{index_of}
use Rattle.propagate_watches.specs.Pool.{row_at}
use Rattle.propagate.specs.Subsets.{AreUnmarked}
use Rattle.propagate.proofs.engine.Engine.row_has_marked.Given as goal

abbrev pub invariant-loop-at : goal.invariant-loop-at
invariant-loop-at l = AreUnmarked l.store.slots l.marks
    (take l.at (row_at l.self.watches.rows (index_of l.lit)))
