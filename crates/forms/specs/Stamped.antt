-- Counts and groups, whose multipliers count only where their stamp is the present one.
use Rattle.std.specs.Prelude.{ℕ, ◌≤◌, ◌==◌, List, map, if◌then◌else◌, All}
use Rattle.forms.specs.declared.numbered.Numbered.{Numbered as Stamped}
use Rattle.forms.specs.declared.numbered.Numbered.TheVariants.{Count as StampedCount}
use Rattle.forms.specs.declared.numbered.Numbered.TheVariants.{Group as StampedGroup}
use Rattle.forms.specs.Forms.{Numbered, Count, Group}

-- what it is where this stamp is the present one
abbrev pub numbered_at : ℕ → Stamped → Numbered
numbered_at present (StampedGroup lits) = Group lits.items
numbered_at present (StampedCount c) =
    Count c.inputs.items c.totalizer (if c.stamp == present then c.multiplier else 0)

abbrev pub numbered_in : ℕ → List Stamped → List Numbered
numbered_in present ns = map (numbered_at present) ns

-- no stamp is later than the present one
abbrev pub IsStamped : ℕ → Stamped → Type 0
IsStamped present (StampedGroup lits) = Unit {0}
IsStamped present (StampedCount c) = c.stamp ≤ present

abbrev pub AreStamped : ℕ → List Stamped → Type 0
AreStamped present ns = All (IsStamped present) ns
