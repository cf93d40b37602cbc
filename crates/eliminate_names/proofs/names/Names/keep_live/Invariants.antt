-- The names so far are those of live clauses.
use Rattle.std.proofs.Common.{◌≡◌}
use Rattle.eliminate_names.proofs.Together.{IsClosing}
use Rattle.eliminate_names.proofs.names.Names.keep_live.Given as goal

abbrev pub invariant-loop-place : goal.invariant-loop-place
invariant-loop-place l = record {
  closing : IsClosing (l.self-inside).names l.fn.self.names l.store.slots l.kept l.place;
  additions : (l.self-inside).additions ≡ l.fn.self.additions;
}
