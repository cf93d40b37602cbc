-- A worked trail: 1 is decided, 2 follows by the clause 0 and 3 by the clause 1.
use Rattle.std.specs.Prelude.{◌≡◌, true, false, List, [], ◌∷◌, Some, None, refl}
use Rattle.cnf.specs.Literal.{positive as p, negative as n}
use Rattle.propagate_trail.specs.Trail.{Assigned, literals_of, depth_of, level_in, reason_in}
use Rattle.propagate_trail.specs.Trail.{position_in, value_in, kept_to}
use Rattle.propagate_trail.specs.Tables.{mentions, assigned_by}
use Rattle.propagate_trail.specs.Renames.{named_reason, renamed_reason}

abbrev trail : List Assigned
trail = record { literal = n 9; reason = Some 7 } ∷ record { literal = p 1; reason = None }
    ∷ record { literal = p 2; reason = Some 0 } ∷ record { literal = p 3; reason = Some 1 } ∷ []

depth : depth_of trail ≡ 1
depth = refl

level_below : level_in trail 9 ≡ Some 0
level_below = refl

level_above : level_in trail 3 ≡ Some 1
level_above = refl

position : position_in trail 2 ≡ Some 2
position = refl

no_position : position_in trail 4 ≡ None
no_position = refl

reason : reason_in trail 2 ≡ Some 0
reason = refl

decision : reason_in trail 1 ≡ None
decision = refl

value : value_in trail (n 3) ≡ Some false
value = refl

open_value : value_in trail (n 4) ≡ None
open_value = refl

kept : literals_of (kept_to 0 trail) ≡ n 9 ∷ []
kept = refl

kept_all : literals_of (kept_to 1 trail) ≡ n 9 ∷ p 1 ∷ p 2 ∷ p 3 ∷ []
kept_all = refl

-- what the tables have of it
mentioned : mentions 2 (p 1 ∷ p 2 ∷ []) ≡ true
mentioned = refl

unmentioned : mentions 3 (p 1 ∷ p 2 ∷ []) ≡ false
unmentioned = refl

by_reasons : assigned_by (None ∷ None ∷ Some 2 ∷ []) (p 1 ∷ p 2 ∷ [])
    ≡ record { literal = p 1; reason = None } ∷ record { literal = p 2; reason = Some 2 } ∷ []
by_reasons = refl

-- the clause 3 goes to 1, and 2 is gone
named : named_reason ((0, 0) ∷ (3, 1) ∷ []) (Some 3) ≡ Some 1
named = refl

not_kept : named_reason ((0, 0) ∷ (3, 1) ∷ []) (Some 2) ≡ Some 2
not_kept = refl

renamed_away : renamed_reason ((0, 0) ∷ (3, 1) ∷ []) (Some 2) ≡ None
renamed_away = refl
