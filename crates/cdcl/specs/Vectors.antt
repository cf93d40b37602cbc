-- A clause from outside, and one that was learned.
use Rattle.std.specs.Prelude.{◌≡◌, [], ◌∷◌, refl}
use Rattle.cnf.specs.Literal.{positive}
use Rattle.lrat_log.specs.declared.lines.Kind.TheVariants.{Learned}
use Rattle.lrat_log.specs.Log.{LogLine, axiom_line}
use Rattle.cdcl.specs.Guiding.{axiom_count}

abbrev learned : LogLine
learned = record { kind = Learned; clause = positive 1 ∷ []; hints = [] }

one_of_two : axiom_count (axiom_line (positive 2 ∷ []) ∷ learned ∷ []) ≡ 1
one_of_two = refl

none : axiom_count (learned ∷ []) ≡ 0
none = refl
