use Rattle.std.proofs.Common.{◌≡◌, ℕ, ◌<◌, length, get_or}
use Rattle.flat_rows.proofs.rows.FlatRows.grow.Given as goal

abbrev pub invariant-loop-place : goal.invariant-loop-place
invariant-loop-place g l = record {
  long : length l.next ≡ l.count;
  copied : (k : ℕ) (d : g.row.T.Denot) → k < l.place
      → get_or l.next k d ≡ get_or l.self-inside.block k d;
}
