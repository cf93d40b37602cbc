-- Which profile a name means.
use Rattle.std.specs.Prelude.{ℕ, List, [], ◌∷◌, Option, Some, None, ◌==◌, if◌then◌else◌}
use Rattle.adder.specs.declared.profiles.Profile.{Profile}
use Rattle.adder.specs.declared.profiles.Profile.TheVariants.{One, Two}

-- 1 or 2
abbrev pub profile_named : List ℕ → Option Profile
profile_named (b ∷ []) =
    if b == 49 then Some One
    else if b == 50 then Some Two
    else None
profile_named [] = None
profile_named (b ∷ c ∷ bs) = None
