-- What a result and a certificate must be, for an instance.
use Rattle.std.specs.Prelude.{◌≡◌, ℕ, ◌≤◌, Bool, List, length}
use Rattle.cnf.specs.Literal.{Assignment}
use Rattle.cnf.specs.Bits.{Extends, assignment_of}
use Rattle.cnf.specs.Problem.{Problem, IsFeasible, cost_under, IsOptimal, IsInconsistent}
use Rattle.wcnf.specs.Wcnf.{Reads}
use Rattle.adder.specs.declared.profiles.Profile.{Profile}
use Rattle.adder.specs.declared.profiles.Profile.TheVariants.{One}
use Rattle.bound.specs.Bound.{hard_cnf, bound_as}
use Rattle.lrat_result.specs.Result.{Said, OptimumFound, Unsatisfiable, Satisfiable, Unknown, Says}
pub use Rattle.lrat_machine.specs.Proofs.{IsProofOver}

abbrev pub ChecksSaid : Profile → Problem → Said → List ℕ → Type 0
ChecksSaid profile p (OptimumFound c bits) proof =
    (length bits ≡ p.variables) × IsFeasible p (assignment_of bits)
    × (cost_under p (assignment_of bits) ≡ c) × IsProofOver (bound_as profile p c).clauses proof
ChecksSaid profile p Unsatisfiable proof = IsProofOver (hard_cnf p).clauses proof
ChecksSaid profile p (Satisfiable c bits) proof = ⊥
ChecksSaid profile p Unknown proof = ⊥

abbrev pub ChecksAs : Profile → List ℕ → List ℕ → List ℕ → Type 0
ChecksAs profile text result proof =
    (p : Problem) × (said : Said) × Reads text p × Says result said
    × ChecksSaid profile p said proof

abbrev pub Checks : List ℕ → List ℕ → List ℕ → Type 0
Checks text result proof = ChecksAs One text result proof

-- each assignment with these bits is a solution of this cost
abbrev pub HasCost : Problem → List Bool → ℕ → Type 0
HasCost p bits cost = (t : Assignment) → Extends bits t → IsFeasible p t × (cost_under p t ≡ cost)

-- no solution costs less
abbrev pub CostsAtLeast : Problem → ℕ → Type 0
CostsAtLeast p cost = (u : Assignment) → IsFeasible p u → cost ≤ cost_under p u

-- what it implies
abbrev pub IsTrueOf : Problem → Said → Type 0
IsTrueOf p (OptimumFound c bits) = (t : Assignment) → Extends bits t → IsOptimal p t c
IsTrueOf p Unsatisfiable = IsInconsistent p
IsTrueOf p (Satisfiable c bits) = ⊥
IsTrueOf p Unknown = ⊥

-- of whatever the text reads as and the result says
abbrev pub IsTrueResult : List ℕ → List ℕ → Type 0
IsTrueResult text result =
    (p : Problem) (said : Said) → Reads text p → Says result said → IsTrueOf p said
