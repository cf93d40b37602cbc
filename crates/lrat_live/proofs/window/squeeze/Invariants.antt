use Rattle.std.proofs.Common.{◌≡◌, ℕ, length, take, drop}
use Rattle.lrat_live.specs.Near.{spanned, AreSpread}
use Rattle.lrat_live.proofs.window.squeeze.Given as goal

abbrev pub invariant-loop-place : goal.invariant-loop-place
invariant-loop-place l = record {
  front : AreSpread l.from (take l.place l.spans) l.end;
  rest : AreSpread l.end (drop l.place l.spans) (length l.lits.items);
  below : take l.from l.lits.items ≡ take l.from l.fn.lits.items;
  clauses : (n : ℕ) → spanned l.lits.items n l.spans ≡ spanned l.fn.lits.items n l.fn.spans;
  literals : length l.lits.items ≡ length l.fn.lits.items;
  count : length l.spans ≡ length l.fn.spans;
}
