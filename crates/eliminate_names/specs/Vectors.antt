-- Worked values: a store of two clauses with a gap between them, and a log that adds, deletes and
-- adds.
use Rattle.std.specs.Prelude.{◌≡◌, [], ◌∷◌, Some, None, refl}
use Rattle.cnf.specs.Literal.{positive as p}
use Rattle.clauses.specs.Slots.{Slots}
use Rattle.lrat_log.specs.declared.lines.Name.TheVariants.{Formula, Added}
use Rattle.lrat_log.specs.declared.lines.Kind.TheVariants.{Resolvent}
use Rattle.lrat_log.specs.Log.{LogLine}
use Rattle.lrat_log.specs.Steps.{added_count}
use Rattle.eliminate_names.specs.Together.{live_names}
use Rattle.eliminate_names.specs.Work.{added_line, delete_line, formula_names, name_at}

abbrev two : Slots
two = Some (p 1 ∷ []) ∷ None ∷ Some (p 2 ∷ p 3 ∷ []) ∷ []

-- the second live clause stands at the third place
third_place : name_at (formula_names 1 two) 2 ≡ Formula 2
third_place = refl

abbrev resolvent_line : LogLine
resolvent_line = record { kind = Resolvent; clause = p 3 ∷ []; hints = [] }

-- a deletion has no number of its own
two_additions : added_count (resolvent_line ∷ delete_line (Added 1) ∷ resolvent_line ∷ []) ≡ 2
two_additions = refl

next_name : added_line 2 ≡ Added 3
next_name = refl

-- the names of what is left close the gap
left_names : live_names (Added 1 ∷ Added 2 ∷ Added 3 ∷ []) two ≡ Added 1 ∷ Added 3 ∷ []
left_names = refl
