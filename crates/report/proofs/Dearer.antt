-- What the first bits cost, where they are a solution.
use Rattle.std.proofs.Common.{◌≡◌, ℕ, ◌<◌, Bool, List, Option, Some, None, sym, ◌∙◌, subst}
use Rattle.std.specs.Prelude.{IfSome, IsSomeAnd}
use Rattle.cnf.specs.Bits.{Extends, assignment_of}
use Rattle.cnf.specs.Literal.{Assignment}
use Rattle.cnf.specs.Problem.{Problem, cost_under}
use Rattle.cnf.proofs.Laws.{extends_own}
use Rattle.improve_found.specs.Solutions.{IsSolution}
use Rattle.improve_found.specs.declared.solutions.Solution.{Solution}
use Rattle.report.specs.Earlier.{IsDearer}

pub same_cost : (p : Problem) (bits : List Bool) (cost other : ℕ) → IsSolution p bits cost
    → ((t : Assignment) → Extends bits t → cost_under p t ≡ other) → other ≡ cost
same_cost p bits cost other s priced =
    let t = assignment_of bits in
    let own = extends_own bits in
    sym (priced t own) ∙ (s.1 t own).1

dearer : (p : Problem) (limit : ℕ) (bits : List Bool) (first : Option Solution)
    → ((cost : ℕ) → IsSolution p bits cost → IsSomeAnd first (λ b. b.cost ≡ cost))
    → IfSome first (λ b. limit < b.cost) → IsDearer p limit bits
dearer p limit bits None priced dear cost s = absurd (priced cost s)
dearer p limit bits (Some b) priced dear cost s =
    subst (λ c. limit < c) (priced cost s) dear

-- so do those at hand, if any are
pub start_dearer : {A : Type 0} (p : Problem) (limit : ℕ) (start : Option A)
    (first : Option Solution) (items : A → List Bool)
    → IfSome start (λ bits. (cost : ℕ) → IsSolution p (items bits) cost
    → IsSomeAnd first (λ b. b.cost ≡ cost))
    → IfSome first (λ b. limit < b.cost) → IfSome start (λ bits. IsDearer p limit (items bits))
start_dearer p limit None first items priced dear = tt
start_dearer p limit (Some bits) first items priced dear =
    dearer p limit (items bits) first priced dear
