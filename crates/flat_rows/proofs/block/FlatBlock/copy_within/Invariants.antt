use Rattle.std.proofs.Common.{◌≡◌, ℕ, ◌+◌, ◌<◌, ◌≤◌, length, get_or}
use Rattle.flat_rows.proofs.block.FlatBlock.copy_within.Given as goal

abbrev pub invariant-loop-moved : goal.invariant-loop-moved
invariant-loop-moved g l = record {
  long : length l.self ≡ length l.fn.self;
  kept : (k : ℕ) (d : g.row.T.Denot) → k < l.to → get_or l.self k d ≡ get_or l.fn.self k d;
  behind : (k : ℕ) (d : g.row.T.Denot) → l.to + l.moved ≤ k
      → get_or l.self k d ≡ get_or l.fn.self k d;
  copied : (k : ℕ) (d : g.row.T.Denot) → k < l.moved → get_or l.self (l.to + k) d ≡ get_or l.fn.self
      (l.from + k) d;
}
