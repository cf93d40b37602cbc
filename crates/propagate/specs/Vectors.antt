-- A worked engine.
use Rattle.std.specs.Prelude.{◌≡◌, true, false, [], ◌∷◌, Some, None, refl}
use Rattle.cnf.specs.Literal.{positive as p, negative as n}
use Rattle.propagate_watches.specs.declared.table.Attachment.TheVariants.{Detached, Waiting}
use Rattle.propagate_watches.specs.declared.table.Attachment.TheVariants.{Watching}
use Rattle.propagate_watches.specs.declared.table.Rest.TheVariants.{Nothing}
use Rattle.propagate.specs.Watches.{EngineState, engine_state, is_attached}
use Rattle.propagate_trail.specs.Tables.{assigned_by}
use Rattle.propagate_trail.specs.Trail.{TrailState}

-- the clause 0 is not attached, 1 waits, and 2 watches 2 and -3
two : TrailState
two = record { variables = 3; assigned = assigned_by (None ∷ None ∷ Some 2 ∷ []) (p 1 ∷ p 2 ∷ []) }

engine : EngineState
engine = engine_state two (Detached ∷ Waiting ∷ Watching (p 2) (n 3) Nothing ∷ []) [] (1 ∷ []) 0 0
    false

detached : is_attached engine 0 ≡ false
unfolding engine two
detached = refl

waits : is_attached engine 1 ≡ true
unfolding engine two
waits = refl

watches : is_attached engine 2 ≡ true
unfolding engine two
watches = refl

beyond : is_attached engine 3 ≡ false
unfolding engine two
beyond = refl

assigned : engine.trail ≡ record { literal = p 1; reason = None }
    ∷ record { literal = p 2; reason = Some 2 } ∷ []
unfolding engine two
assigned = refl
