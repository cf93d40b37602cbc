-- Worked states: a session that has told the costs 5 and 3.
use Rattle.std.specs.Prelude.{◌≡◌, ◌∷◌, [], None, Ok, Err, true, refl}
use Rattle.cnf.specs.declared.limits.TheConstants.{NUMBER_LIMIT}
use Rattle.improve_found.specs.Progress.{Telling}
use Rattle.improve_found.specs.declared.found.ImproveFault.TheVariants.{Memory}
use Rattle.improve_cuts.specs.Sessions.{cost_of, found_by, with_all_told}

abbrev before : Telling
before = record { told = 9 ∷ []; failed = None; failures = 0 }

told : (with_all_told (5 ∷ 3 ∷ []) before).told ≡ 9 ∷ 5 ∷ 3 ∷ []
told = refl

none : cost_of None ≡ NUMBER_LIMIT
none = refl

found : found_by (Ok true) None ≡ Ok (record { best = None; is_proved = true })
found = refl

failed : found_by (Err Memory) None ≡ Err Memory
failed = refl
