use Rattle.std.proofs.Common.{◌≡◌, ℕ, ◌<◌, get_or, replicate, true, false}
use Rattle.flat_rows.proofs.block.FlatBlock.new.Given as goal

abbrev pub invariant-loop-place : goal.invariant-loop-place
invariant-loop-place g l = record {
  at : l.places.at ≡ l.base;
  same : l.places.items ≡ replicate l.count l.fill;
  full : (k : ℕ) → k < l.place → get_or l.places.filled k false ≡ true;
}
