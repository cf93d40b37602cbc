use Rattle.std.proofs.Common.{◌≡◌, ◌-◌, length}
use Rattle.cnf.specs.Literal.{index_of}
use Rattle.propagate_watches.specs.Pool.{row_at}
use Rattle.propagate.specs.Steps.{Continues, InRow}
use Rattle.propagate.proofs.engine.Engine.look_at_row.Given as goal

abbrev pub invariant-loop-read : goal.invariant-loop-read
invariant-loop-read l = record {
  continues : Continues l.initial.self l.self;
  state : InRow l.store.slots l.self l.falsified l.write l.read;
  long : l.len ≡ length (row_at l.self.watches.rows (index_of l.falsified));
  qhead : l.self.watches.qhead ≡ l.initial.self.watches.qhead;
}

abbrev pub decreases-loop-read : goal.decreases-loop-read
decreases-loop-read l = l.len - l.read
