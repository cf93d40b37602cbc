-- Numbers that count, and numbers that rise.
use Rattle.std.specs.Prelude.{ℕ, ◌+◌, ◌≤◌, Bool, List, [], ◌∷◌, if◌then◌else◌}

abbrev pub one_if : Bool → ℕ
one_if b = if b then 1 else 0

-- each number is above the one before it, and the first is not below the least
abbrev pub RisesFrom : ℕ → List ℕ → Type 0
RisesFrom least [] = Unit {0}
RisesFrom least (k ∷ ks) = (least ≤ k) × RisesFrom (k + 1) ks
