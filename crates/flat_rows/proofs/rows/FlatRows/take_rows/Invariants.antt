use Rattle.std.proofs.Common.{◌≡◌, ℕ, ◌<◌, length}
use Rattle.flat_rows.specs.Rows.{row_at}
use Rattle.flat_rows.proofs.rows.FlatRows.take_rows.Given as goal

abbrev pub invariant-loop-row : goal.invariant-loop-row
invariant-loop-row g l = record {
  long : length l.self.rows ≡ length l.other.rows;
  copied : (k : ℕ) → k < l.row → row_at l.self.rows k ≡ row_at l.other.rows k;
}
