-- How what is known of a literal is kept in one byte.
use Rattle.std.specs.Prelude.{◌≡◌, Bool, true, false, Option, Some, None, refl}
use Rattle.propagate_trail.specs.declared.truth.Known.{Known}
use Rattle.propagate_trail.specs.declared.truth.Known.TheVariants.{Open, False, True}
use Rattle.propagate_trail.specs.declared.truth.Truth.TheInside.{Inside}

abbrev pub truth_of : Known → Option Bool
truth_of Open = None
truth_of False = Some false
truth_of True = Some true

abbrev pub truth_in : Inside → Option Bool
truth_in t = truth_of t.known

abbrev pub known_of : Option Bool → Inside
known_of None = record { known = Open }
known_of (Some false) = record { known = False }
known_of (Some true) = record { known = True }

known_again : (k : Known) → known_of (truth_of k) ≡ record { known = k }
known_again Open = refl
known_again False = refl
known_again True = refl

pub known_of-truth_in : (t : Inside) → known_of (truth_in t) ≡ t
known_of-truth_in t = known_again t.known
