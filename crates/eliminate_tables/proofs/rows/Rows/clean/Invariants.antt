-- What is live of the places so far stands in the first ones.
use Rattle.std.proofs.Common.{◌≡◌}
use Rattle.eliminate_tables.specs.Rows.{has_clause}
use Rattle.flat_rows.proofs.Laws.{IsSieved}
use Rattle.eliminate_tables.proofs.rows.Rows.clean.Given as goal

abbrev pub invariant-loop-read : goal.invariant-loop-read
invariant-loop-read l = record {
  sieved : IsSieved (has_clause l.store.slots) l.fn.self.rows l.self.rows l.row l.write l.read;
  rooms : l.self.rooms ≡ l.fn.self.rooms;
}
