-- The rows so far have their room, and the others have that which they had.
use Rattle.std.proofs.Common.{◌≡◌, ℕ, ◌<◌, ◌≤◌, length}
use Rattle.std.specs.Prelude.{max}
use Rattle.flat_rows.specs.Rows.{room_at}
use Rattle.flat_rows.proofs.rows.FlatRows.make_rooms.Given as goal

abbrev pub invariant-loop-row : goal.invariant-loop-row
invariant-loop-row g l = record {
  rows : l.self.rows ≡ l.fn.self.rows;
  long : length l.self.rooms ≡ length l.fn.self.rooms;
  done : (i : ℕ) → i < l.row
      → room_at l.self.rooms i ≡ max (room_at l.fn.self.rooms i) (room_at l.rooms i);
  left : (i : ℕ) → l.row ≤ i → room_at l.self.rooms i ≡ room_at l.fn.self.rooms i;
}
