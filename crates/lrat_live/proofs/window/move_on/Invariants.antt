use Rattle.std.proofs.Common.{◌≡◌, ℕ, [], ◌++◌, length, take}
use Rattle.lrat_live.specs.Near.{spanned, AreSpread, AreWithin}
use Rattle.lrat_live.proofs.window.move_on.Given as goal

abbrev pub invariant-loop-place : goal.invariant-loop-place
invariant-loop-place l = record {
  all : l.far ++ spanned l.lits l.first l.spans ≡ l.fn.far ++ spanned l.lits l.first l.fn.spans;
  none : spanned l.lits l.first (take l.place l.spans) ≡ [];
  spread : (from to : ℕ) → AreSpread from l.fn.spans to → AreSpread from l.spans to;
  count : length l.spans ≡ length l.fn.spans;
  within : AreWithin l.spans (length l.lits);
}
