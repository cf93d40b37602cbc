-- Worked values: the room of a row that is full.
use Rattle.std.specs.Prelude.{◌≡◌, ◌-◌, ◌^◌, refl}
use Rattle.flat_rows.specs.Rows.{doubled_room}

first_room : doubled_room 0 ≡ 4
first_room = refl

twice_the_room : doubled_room 12 ≡ 24
twice_the_room = refl

most_room : doubled_room (2 ^ 31) ≡ 2 ^ 32 - 1
most_room = refl
