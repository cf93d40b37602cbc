use Rattle.std.proofs.Common.{◌≡◌, length}
use Rattle.eliminate_tables.specs.Rows.{AreRows}
use Rattle.eliminate.proofs.simplifier.make_space.Given as goal

abbrev pub invariant-loop-lit : goal.invariant-loop-lit
invariant-loop-lit l = record {
  rows : AreRows l.fn.rows.rows l.store.slots → AreRows l.rows.rows l.store.slots;
  places : length l.rows.rows ≡ length l.fn.rows.rows;
}
