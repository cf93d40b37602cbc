-- What certificates of forms and cuts prove.
use Rattle.std.specs.Prelude.{◌≡◌, ℕ, ◌≤◌, true, List, Option, Some, Ok}
use Rattle.cnf.specs.Literal.{Assignment}
use Rattle.cnf.specs.Problem.{Problem, IsFeasible, cost_under}
use Rattle.cnf.specs.Instance.{IsInstance}
use Rattle.cnf.specs.declared.limits.TheConstants.{NUMBER_LIMIT}
use Rattle.lrat_cuts.specs.Cuts.{CutsState, cuts_start, judged_lines}

-- no solution costs less than what lines have proved, wherever they end
abbrev pub CutsAreSound : Type 0
CutsAreSound = (p : Problem) (cost : Option ℕ) (lines : List (List (List ℕ))) (s : CutsState)
    → IsInstance p → judged_lines cost (cuts_start p) 1 lines ≡ Ok s
    → (u : Assignment) → IsFeasible p u → s.proved ≤ cost_under p u

-- where all cuts have to hold for a cost, the empty clause proves that nothing costs less
abbrev pub CutsProveTheCost : Type 0
CutsProveTheCost = (p : Problem) (cost : ℕ) (lines : List (List (List ℕ))) (s : CutsState)
    → cost ≤ NUMBER_LIMIT → judged_lines (Some cost) (cuts_start p) 1 lines ≡ Ok s
    → s.ended ≡ true → cost ≤ s.proved
