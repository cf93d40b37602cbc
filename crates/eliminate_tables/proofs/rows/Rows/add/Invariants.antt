-- The clause is in the rows of its literals so far.
use Rattle.std.proofs.Common.{◌≡◌, length, take}
use Rattle.eliminate_tables.specs.Rows.{with_clause_rows}
use Rattle.eliminate_tables.proofs.rows.Rows.add.Given as goal

abbrev pub invariant-loop-lit : goal.invariant-loop-lit
invariant-loop-lit l = record {
  long : length l.self.rows ≡ length l.fn.self.rows;
  rows : l.self.rows ≡ with_clause_rows l.fn.self.rows (take l.lit-index l.lits) l.reference;
}
