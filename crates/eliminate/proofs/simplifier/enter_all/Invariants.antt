use Rattle.std.proofs.Common.{◌≡◌, take, length}
use Rattle.eliminate_tables.specs.Rows.{AreRows}
use Rattle.eliminate.proofs.simplifier.enter_all.Given as goal

abbrev pub invariant-loop-place : goal.invariant-loop-place
invariant-loop-place l = record {
  rows : AreRows l.rows.rows (take l.place l.store.slots);
  places : length l.rows.rows ≡ length l.fn.rows.rows;
}
