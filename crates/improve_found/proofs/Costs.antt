-- The costs of solutions: each is that of an assignment, is small, and those told fall.
use Rattle.std.proofs.Common.{ℕ, ◌<◌, ◌≤◌, ◌^◌, Bool, true, false, List, [], ◌∷◌, ◌++◌, arith}
use Rattle.std.specs.Prelude.{if◌then◌else◌, sum_by}
use Rattle.std.proofs.lemmas.List.Sums.{sum_by-le-sum_by}
use Rattle.cnf.specs.Clause.{clause_value}
use Rattle.cnf.specs.Bits.{assignment_of}
use Rattle.cnf.specs.Problem.{Problem, SoftClause, cost_under}
use Rattle.cnf.specs.Instance.{IsInstance}
use Rattle.cnf.proofs.Laws.{extends_own}
use Rattle.improve_found.specs.Progress.{AreFalling}
use Rattle.improve_found.specs.Solutions.{IsSolution, IsCostOfSome}

-- a solution's cost is that of some assignment, and cheaper ones go on falling
pub cost_of_solution : (p : Problem) (bits : List Bool) (c : ℕ) → IsSolution p bits c
    → IsCostOfSome p c
cost_of_solution p bits c s =
    let t = assignment_of bits in (t, (s.1 t (extends_own bits)).0, (s.1 t (extends_own bits)).1)

pub falling_more : (costs : List ℕ) (c d : ℕ) → AreFalling (costs ++ c ∷ []) → d < c
    → AreFalling ((costs ++ c ∷ []) ++ d ∷ [])
falling_more [] c d h lt = (lt, tt)
falling_more (x ∷ []) c d h lt = (h.0, (lt, tt))
falling_more (x ∷ y ∷ costs) c d h lt = (h.0, falling_more (y ∷ costs) c d h.1 lt)

part : (b : Bool) (w : ℕ) → (if b then 0 else w) ≤ w
part true w = omega arith
part false w = omega arith

-- weights sum to less than 2^62, and so does what an assignment costs
pub cost_small : (p : Problem) (c : ℕ) → IsInstance p → IsCostOfSome p c → c < 2 ^ 62
cost_small p c h k =
    let le : cost_under p k.0 ≤ sum_by (λ (s : SoftClause). s.weight) p.soft =
    sum_by-le-sum_by (λ (s : SoftClause). if clause_value k.0 s.clause then 0 else s.weight)
    (λ (s : SoftClause). s.weight) p.soft (λ s. part (clause_value k.0 s.clause) s.weight) in
    omega (arith, le, h.weight_sum, k.2)
