-- A worked store.
use Rattle.std.specs.Prelude.{◌≡◌, [], ◌∷◌, Some, None, refl, slice_set}
use Rattle.cnf.specs.Literal.{positive as p, negative as n}
use Rattle.clauses.specs.Slots.{Slots, live_places, live_clauses, room_of, renamed, moves_of}
use Rattle.clauses.specs.Moved.{named}

abbrev three : Slots
three = Some (p 1 ∷ p 2 ∷ p 3 ∷ []) ∷ Some (n 1 ∷ p 2 ∷ []) ∷ Some (p 3 ∷ []) ∷ []

full : room_of (live_clauses three) ≡ 9
full = refl

left : room_of (live_clauses (slice_set three 1 None)) ≡ 6
left = refl

places : live_places (slice_set three 1 None) ≡ 0 ∷ 2 ∷ []
places = refl

moved : moves_of (slice_set three 1 None) ≡ (0, 0) ∷ (2, 1) ∷ []
moved = refl

new : renamed ((0, 0) ∷ (2, 1) ∷ []) 2 ≡ Some 1
new = refl

listed : named ((0, 0) ∷ (2, 1) ∷ []) 2 ≡ 1
listed = refl

unlisted : named ((0, 0) ∷ (2, 1) ∷ []) 5 ≡ 5
unlisted = refl
