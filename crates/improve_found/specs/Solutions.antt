-- Solutions of an instance, and what they cost.
use Rattle.std.specs.Prelude.{◌≡◌, ◌≤◌, ℕ, Bool, List, length}
use Rattle.cnf.specs.Literal.{Assignment}
use Rattle.cnf.specs.Bits.{Extends}
use Rattle.cnf.specs.Problem.{Problem, IsFeasible, cost_under}

-- the bits are a solution of this cost
abbrev pub IsSolution : Problem → List Bool → ℕ → Type 0
IsSolution p bits c =
    (length bits ≡ p.variables)
    × ((t : Assignment) → Extends bits t → IsFeasible p t × (cost_under p t ≡ c))

-- the cost of some solution
abbrev pub IsCostOfSome : Problem → ℕ → Type 0
IsCostOfSome p c = (t : Assignment) × IsFeasible p t × (cost_under p t ≡ c)

-- as many bits as variables at least, with which all hard clauses hold
abbrev pub AreFeasible : Problem → List Bool → Type 0
AreFeasible p bits =
    (p.variables ≤ length bits) × ((t : Assignment) → Extends bits t → IsFeasible p t)
